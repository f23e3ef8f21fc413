-- Worked examples of the body of a dump, computed: what is seen of variables, and what it sets off.
use Rattle.std.proofs.Common.{◌≡◌, ap, if◌then◌else◌, ℕ, List, [], ◌∷◌, Bool, true, false, Option, Some, None, refl}
use Rattle.std.specs.Prelude.{codes}
use Rattle.std.specs.Fmt.{digits}
use Rattle.ccsl_vcd_lex.specs.Tokens.{tokens_from, run, is_white, heard}
use Rattle.ccsl_vcd.specs.Words.{word_of, number}
use Rattle.ccsl_vcd.specs.declared.fault.VcdFault.{VcdFault}
use Rattle.ccsl_vcd.specs.declared.fault.VcdFault.TheVariants as faults
use Rattle.std.specs.declared.vec.Vec.{Vec}
use Rattle.std.specs.declared.alloc.Global.{Global}
use Rattle.ccsl_triggers.specs.declared.watch.Part.{Part}
use Rattle.ccsl_triggers.specs.declared.watch.Goal.{Goal}
use Rattle.ccsl_triggers.specs.declared.watch.Trigger.{Trigger}
use Rattle.ccsl_triggers.specs.declared.watch.Trigger.TheVariants.{Rise, Change}
use Rattle.ccsl_triggers.specs.Triggers.{sets_off, held_before}
use Rattle.ccsl_triggers.specs.Output.{row_text}
use Rattle.ccsl_triggers.specs.Views.{View}
use Rattle.std.specs.List.{list_all}
use Rattle.ccsl_events.specs.Dump.{Variable, Plan, Place, Said, goes, refused, Story, begin, says, story, body_says}
use Rattle.ccsl_events.specs.Run.{settled_from, story_from}

abbrev variable : List ℕ → ℕ → Variable
variable code size = record { code = code; size = size }

-- all bits of a variable
abbrev whole : ℕ → ℕ → Part
whole number width = record { signal = number; bits = record { low = 0; width = width } }

abbrev plan : List Variable → Bool → Plan
plan variables skips = record { codes = (codes "!") ∷ (codes "%") ∷ []; variables = variables; watches = []; skips = skips }

-- whether a trigger is set off at the time of the last token
abbrev is_set_off : Plan → Trigger → List ℕ → Bool
is_set_off p t body = sets_off t (story p (heard body)).place.views

-- the value of a variable before that time
abbrev before : Plan → ℕ → List ℕ → Option (List ℕ)
before p number body = ((story p (heard body)).place.views number).before

abbrev fault : Plan → List ℕ → Option VcdFault
fault p body = (story p (heard body)).fault

-- a clock, and a variable that is 1 before its rise at 5 and falls at 6, so that it is 0 before the rise at 8

abbrev two : Plan
two = plan (variable (codes "!") 1 ∷ variable (codes "%") 1 ∷ []) false

rise_at_5 : is_set_off two (Rise (whole 0 1)) (codes "$dumpvars 0! 1% $end #5 1! ") ≡ true
unfolding story says word_of number tokens_from run is_white
rise_at_5 = refl

one_before_5 : before two 1 (codes "$dumpvars 0! 1% $end #5 1! 0% ") ≡ Some (codes "1")
unfolding story says word_of number tokens_from run is_white
one_before_5 = refl

zero_before_8 : before two 1 (codes "$dumpvars 0! 1% $end #5 1! #6 0! 0% #8 1! 1% ") ≡ Some (codes "0")
unfolding story says word_of number tokens_from run is_white
zero_before_8 = refl

first_value : is_set_off two (Rise (whole 0 1)) (codes "#5 1! ") ≡ false
unfolding story says word_of number tokens_from run is_white
first_value = refl

-- behind a gap the first value is no rise, and a later one is

abbrev one_clock : Bool → Plan
one_clock skips = plan (variable (codes "!") 1 ∷ []) skips

behind_gap : is_set_off (one_clock true) (Rise (whole 0 1)) (codes "#1 0! #2 $dumpoff x! $end #5 $dumpon 1! $end ") ≡ false
unfolding story says word_of number tokens_from run is_white
behind_gap = refl

later : is_set_off (one_clock true) (Rise (whole 0 1)) (codes "#1 0! #2 $dumpoff x! $end #5 $dumpon 1! $end #6 0! #7 1! ") ≡ true
unfolding story says word_of number tokens_from run is_white
later = refl

gap_refused : fault (one_clock false) (codes "#1 0! #2 $dumpoff x! $end ") ≡ Some (faults.Gap 9)
unfolding story says word_of number tokens_from run is_white
gap_refused = refl

-- two variables of one code, of one letter and of four: 0000, 0011 and 0101

abbrev two_sizes : Plan
two_sizes = plan (variable (codes "!") 1 ∷ variable (codes "!") 4 ∷ []) false

both_at_1 : is_set_off two_sizes (Rise (whole 0 1)) (codes "b0 ! #1 b11 ! ") ≡ true
unfolding story says word_of number tokens_from run is_white
both_at_1 = refl

none_at_2 : is_set_off two_sizes (Rise (whole 0 1)) (codes "b0 ! #1 b11 ! #2 b101 ! ") ≡ false
unfolding story says word_of number tokens_from run is_white
none_at_2 = refl

change_at_2 : is_set_off two_sizes (Change (whole 1 4)) (codes "b0 ! #1 b11 ! #2 b101 ! ") ≡ true
unfolding story says word_of number tokens_from run is_white
change_at_2 = refl

-- A whole body, which begins at place 40 of its dump.

abbrev fault_in : Said → Option VcdFault
fault_in (goes p) = None
fault_in (refused f) = Some f

abbrev written_in : Said → List ℕ
written_in (goes p) = p.written
written_in (refused f) = []

-- what is told from a place on of bytes that begin at a place of the dump
abbrev told : Place → ℕ → List ℕ → Story
told p at bytes = story_from two p (settled_from at bytes)

-- the last token may end with the dump
last_token : fault_in (body_says two 40 45 (codes "#5 1!")) ≡ None
unfolding story says word_of number tokens_from run is_white
last_token = refl

-- behind a vector its code is missing
vector_at_the_end : fault_in (body_says two 40 46 (codes "#5 b10")) ≡ Some (faults.Truncated 46)
unfolding story says word_of number tokens_from run is_white
vector_at_the_end = refl

-- the first fault counts, with its place in the dump
first_fault : fault_in (body_says two 40 49 (codes "#5 1? #4 ")) ≡ Some (faults.UnknownCode 43)
unfolding story says word_of number tokens_from run is_white
first_fault = refl

-- the row of the last time is written
abbrev rises : Vec Goal Global → Plan
rises none = record two { watches = record { trigger = Rise (whole 0 1); conditions = none } ∷ [] }

last_row : (none : Vec Goal Global) → none.items ≡ [] → written_in (body_says (rises none) 40 48 (codes "0! #5 1!")) ≡ codes "#5\n1!\n"
unfolding story says word_of number tokens_from run is_white digits
last_row none e =
    let views : ℕ → View = (story (rises none) (heard (codes "0! #5 1!"))).place.views in
    ap (λ (goals : List Goal). row_text (codes "5") (if list_all (held_before views) goals then 0 ∷ [] else [])) e

-- in two pieces as in one
two_pieces : told (told begin 40 (codes "#5 ")).place 43 (codes "1! ") ≡ told begin 40 (codes "#5 1! ")
unfolding says word_of number tokens_from run is_white
two_pieces = refl

-- a token that goes over the end of a piece is not settled there
open_token : settled_from 40 (codes "#5 1") ≡ settled_from 40 (codes "#5 ")
unfolding tokens_from run is_white
open_token = refl
