-- When a name happens at a time: by the values that stood before it, settled at the last earlier time with a change, and those
-- settled at it. A value is a list of letters.
use Rattle.std.specs.Prelude.{ℕ, ◌-◌, List, [], ◌∷◌, length, Bool, false, not, Option, Some, None, ◌&&◌, if◌then◌else◌, bytes_eq, codes, slice_get}
use Rattle.std.specs.Prelude.{slice_range}
use Rattle.std.specs.List.{list_all}
use Rattle.ccsl_scopes.specs.declared.select.Bits.{Bits}
use Rattle.ccsl_triggers.specs.Views.{View, no_view}
use Rattle.std.specs.declared.vec.Vec.{Vec}
use Rattle.std.specs.declared.alloc.Global.{Global}
use Rattle.ccsl_triggers.specs.declared.signal.Value.{Value}
use Rattle.ccsl_triggers.specs.declared.signal.Value.TheVariants.{One, Many}
use Rattle.ccsl_triggers.specs.declared.signal.Signal.{Signal}
use Rattle.ccsl_triggers.specs.declared.watch.Goal.{Goal}
use Rattle.ccsl_triggers.specs.declared.watch.Watch.{Watch}
use Rattle.ccsl_triggers.specs.declared.watch.Trigger.{Trigger}
use Rattle.ccsl_triggers.specs.declared.watch.Trigger.TheVariants.{Rise, Fall, Change, Becomes, Record}

-- a value of one letter, and one of several, where there is one
abbrev pub letter_in : Option ℕ → Option (List ℕ)
letter_in None = None
letter_in (Some letter) = Some (letter ∷ [])

abbrev pub letters_in : Vec ℕ Global → Bool → Option (List ℕ)
letters_in letters has_any = if has_any then Some letters.items else None

-- how many letters a value has, and those before a time and after it
abbrev pub size_of : Value → ℕ
size_of (One letter) = 1
size_of (Many letters) = letters.size

abbrev pub before_in : Value → Option (List ℕ)
before_in (One letter) = letter_in letter.before
before_in (Many letters) = letters_in letters.before letters.has_before

abbrev pub after_in : Value → Option (List ℕ)
after_in (One letter) = letter_in letter.after
after_in (Many letters) = letters_in letters.after letters.has_after

-- the letters of a variable that is kept, before a time and after it
abbrev pub value_before : Signal → Option (List ℕ)
value_before s = before_in s.value

abbrev pub value_after : Signal → Option (List ℕ)
value_after s = after_in s.value

abbrev pub view_of : Signal → View
view_of s = record { before = value_before s; after = value_after s; heard = s.heard }

-- what is seen of the variable with a number, among those that are kept
abbrev pub view_in : Option Signal → View
view_in None = no_view
view_in (Some s) = view_of s

abbrev pub view_at : List Signal → ℕ → View
view_at ss n = view_in (slice_get ss n)

-- some letters of a value, counted from the right
abbrev pub part : Bits → List ℕ → List ℕ
part b letters = slice_range letters (length letters - b.low - b.width) (length letters - b.low)

-- a rise and a fall of a bit, and a change, from the letters before to those after
abbrev pub rises : List ℕ → List ℕ → Bool
rises before after = bytes_eq after (codes "1") && not (bytes_eq before (codes "1"))

abbrev pub falls : List ℕ → List ℕ → Bool
falls before after = bytes_eq after (codes "0") && not (bytes_eq before (codes "0"))

abbrev pub differs : List ℕ → List ℕ → Bool
differs before after = not (bytes_eq after before)

-- letters are those of a value, or are not
abbrev pub meets : Goal → List ℕ → Bool
meets g letters =
    if g.is_equal then bytes_eq (part g.part.bits letters) g.letters.items
    else not (bytes_eq (part g.part.bits letters) g.letters.items)

-- a condition begins to hold
abbrev pub begins : Goal → List ℕ → List ℕ → Bool
begins g before after = meets g after && not (meets g before)

-- a test of both values. Without the one or the other it fails, so that a first value triggers nothing.
abbrev pub of_values : (List ℕ → List ℕ → Bool) → Option (List ℕ) → Option (List ℕ) → Bool
of_values test None after = false
of_values test (Some b) None = false
of_values test (Some b) (Some a) = test b a

abbrev pub of_view : (List ℕ → List ℕ → Bool) → View → Bool
of_view test s = of_values test s.before s.after

abbrev pub of_part : (List ℕ → List ℕ → Bool) → Bits → List ℕ → List ℕ → Bool
of_part test b before after = test (part b before) (part b after)

-- the variable that a trigger reads
abbrev pub variable_of : Trigger → ℕ
variable_of (Rise p) = p.signal
variable_of (Fall p) = p.signal
variable_of (Change p) = p.signal
variable_of (Becomes g) = g.part.signal
variable_of (Record n) = n

-- by what is seen of each variable
abbrev pub sets_off : Trigger → (ℕ → View) → Bool
sets_off (Rise p) v = of_view (of_part rises p.bits) (v p.signal)
sets_off (Fall p) v = of_view (of_part falls p.bits) (v p.signal)
sets_off (Change p) v = of_view (of_part differs p.bits) (v p.signal)
sets_off (Becomes g) v = of_view (begins g) (v g.part.signal)
sets_off (Record n) v = (v n).heard

-- a condition held before the time; none does on a variable without a value
abbrev pub met_by : Goal → Option (List ℕ) → Bool
met_by g None = false
met_by g (Some before) = meets g before

abbrev pub held_before : (ℕ → View) → Goal → Bool
held_before v g = met_by g (v g.part.signal).before

-- A NAME HAPPENS: it is set off at the time, and its conditions held before it
abbrev pub happens : Watch → (ℕ → View) → Bool
happens w v = sets_off w.trigger v && list_all (held_before v) w.conditions.items
