-- WHAT A FILE OF EVENTS SAYS. This language is this project's own; `docs/GUIDE.md` shows it:
--     events 1;  NAME = TRIGGER [when CONDITION {and CONDITION}];  ..
--     TRIGGER is rise, fall, change or event and a PATH, or becomes and a CONDITION, which is a PATH, == or != and a value
--     PATH is one or more parts with dots between, and may end with [N] or [N:N]
-- Each place in a file says which tokens may stand there, and which place each of them leads to.
use Rattle.std.specs.Prelude.{ℕ, List, [], ◌∷◌, ◌++◌, length, Bool, true, false, not, Option, Some, None, nat_lt, ◌==◌, ◌&&◌, if◌then◌else◌, codes, bytes_eq}
use Rattle.std.specs.Prelude.{filter, map}
use Rattle.ccsl_base.specs.declared.limits.TheConstants.{MAX_CLOCKS}
use Rattle.ccsl_base.specs.Name.{is_name}
use Rattle.ccsl_base.specs.Names.{is_among}
use Rattle.ccsl_base.specs.Decimal.{number_up_to}
use Rattle.ccsl_scopes.specs.declared.select.Select.{Select}
use Rattle.ccsl_scopes.specs.declared.select.Select.TheVariants.{Whole, Bit, Range}
use Rattle.ccsl_event_file.specs.declared.fault.EventFault.{EventFault}
use Rattle.ccsl_event_file.specs.declared.fault.EventFault.TheVariants as faults
use Rattle.ccsl_event_file.specs.Tokens.{Token, word, quoted, equal, unequal, mark, Placed, tokens}
use Rattle.ccsl_event_file.specs.Values.{value_of}

-- ## What is said

-- the place of its first byte, its parts with a blank between two, and what stands in brackets
pub record Path : Type 0 where
  pub at : ℕ
  pub parts : List ℕ
  pub select : Select

-- a path has a value, or has another one; the place of the value, and its letters
pub record Condition : Type 0 where
  pub path : Path
  pub is_equal : Bool
  pub at : ℕ
  pub letters : List ℕ

pub data Trigger : Type 0 where
  rise : Path → Trigger
  fall : Path → Trigger
  change : Path → Trigger
  becomes : Condition → Trigger
  record_of : Path → Trigger

pub record Event : Type 0 where
  pub name : List ℕ
  pub trigger : Trigger
  pub conditions : List Condition

abbrev pub event : List ℕ → Trigger → List Condition → Event
event name trigger conditions = record { name = name; trigger = trigger; conditions = conditions }

-- ## Places

-- what a path is for: a trigger that is no condition, the condition of a trigger, or one more condition behind a trigger and others
pub data Use : Type 0 where
  trigger_of : (Path → Trigger) → Use
  becoming : Use
  condition_of : Trigger → List Condition → Use

-- a statement in which a path is read, behind these events
pub record Draft : Type 0 where
  pub events : List Event
  pub name : List ℕ
  pub use_of : Use

abbrev pub draft : List Event → List ℕ → Use → Draft
draft es name u = record { events = es; name = name; use_of = u }

-- what the next token is; behind these events, a name, or a path of these parts that begins at a place
pub data Place : Type 0 where
  keyword : Place
  version : Place
  head_end : Place
  statement : List Event → Place
  sign : List Event → List ℕ → Place
  kind : List Event → List ℕ → Place
  first_part : Draft → Place
  part : Draft → ℕ → List ℕ → Place
  behind_part : Draft → ℕ → List ℕ → Place
  left : Draft → ℕ → List ℕ → Place
  behind_left : Draft → ℕ → List ℕ → ℕ → Place
  right : Draft → ℕ → List ℕ → ℕ → Place
  bracket : Draft → Path → Place
  behind_path : Draft → Path → Place
  value : Draft → Path → Bool → Place
  behind : List Event → Event → Place

-- ## What a token says

pub data Said : Type 0 where
  goes : Place → Said
  refused : EventFault → Said

abbrev pub syntax : Placed → Said
syntax t = refused (faults.Syntax t.at)

abbrev pub expects : Bool → Place → Placed → Said
expects true p t = goes p
expects false p t = syntax t

abbrev pub is_word : List ℕ → Token → Bool
is_word text (word w) = bytes_eq w text
is_word text _ = false

abbrev pub is_mark : ℕ → Token → Bool
is_mark b (mark c) = c == b
is_mark b _ = false

-- A name of the grammar that no event before has. There are at most MAX_CLOCKS.
abbrev pub may_be_named : List Event → List ℕ → Bool
may_be_named es name = is_name name && nat_lt (length es) MAX_CLOCKS

abbrev pub names_of : List Event → List (List ℕ)
names_of es = map (λ e. e.name) es

abbrev pub named : List Event → Placed → Token → Said
named es t (word name) =
    if may_be_named es name
    then (if is_among name (names_of es) then refused (faults.Duplicate t.at) else goes (sign es name))
    else syntax t
named es t _ = syntax t

abbrev pub use_of_word : List ℕ → Option Use
use_of_word text =
    if bytes_eq text (codes "rise") then Some (trigger_of rise)
    else (if bytes_eq text (codes "fall") then Some (trigger_of fall)
    else (if bytes_eq text (codes "change") then Some (trigger_of change)
    else (if bytes_eq text (codes "becomes") then Some becoming
    else (if bytes_eq text (codes "event") then Some (trigger_of record_of)
    else None))))

abbrev pub use_of_token : Token → Option Use
use_of_token (word text) = use_of_word text
use_of_token _ = None

abbrev pub used : List Event → List ℕ → Placed → Option Use → Said
used es name t (Some u) = goes (first_part (draft es name u))
used es name t None = syntax t

-- A part of a path. Blanks between quotes are left out, since no name in a dump has one.
abbrev pub part_of : Token → Option (List ℕ)
part_of (word text) = Some text
part_of (quoted text) = Some (filter (λ b. not (b == 32)) text)
part_of _ = None

abbrev pub with_part : Draft → ℕ → List ℕ → Placed → Option (List ℕ) → Said
with_part d at parts t (Some text) = goes (behind_part d at (parts ++ text))
with_part d at parts t None = syntax t

abbrev pub text_of : Token → Option (List ℕ)
text_of (word text) = Some text
text_of _ = None

-- a number in brackets
abbrev pub index_of : Token → Option ℕ
index_of (word text) = number_up_to 4294967294 text
index_of _ = None

abbrev pub with_left : Draft → ℕ → List ℕ → Placed → Option ℕ → Said
with_left d at parts t (Some n) = goes (behind_left d at parts n)
with_left d at parts t None = syntax t

abbrev pub path : ℕ → List ℕ → Select → Path
path at parts select = record { at = at; parts = parts; select = select }

abbrev pub with_right : Draft → ℕ → List ℕ → ℕ → Placed → Option ℕ → Said
with_right d at parts n t (Some m) = goes (bracket d (path at parts (Range n m)))
with_right d at parts n t None = syntax t

-- behind a whole condition, or a trigger that is none: `when`, and behind a condition `and`
abbrev pub joint : List Condition → List ℕ
joint [] = codes "when"
joint (c ∷ cs) = codes "and"

abbrev pub behind_says : List Event → Event → Placed → Said
behind_says es e t =
    if is_word (joint e.conditions) t.token then goes (first_part (draft es e.name (condition_of e.trigger e.conditions)))
    else expects (is_mark 59 t.token) (statement (es ++ e ∷ [])) t

-- == or !=
abbrev pub comparison_of : Token → Option Bool
comparison_of equal = Some true
comparison_of unequal = Some false
comparison_of _ = None

abbrev pub compares : Draft → Path → Placed → Option Bool → Said
compares d p t (Some is_equal) = goes (value d p is_equal)
compares d p t None = syntax t

abbrev pub path_says : Draft → Path → Placed → Use → Said
path_says d p t (trigger_of made) = behind_says d.events (event d.name (made p) []) t
path_says d p t becoming = compares d p t (comparison_of t.token)
path_says d p t (condition_of trigger conditions) = compares d p t (comparison_of t.token)

abbrev pub with_condition : Draft → Condition → Use → Event
with_condition d c (trigger_of made) = event d.name (becomes c) []
with_condition d c becoming = event d.name (becomes c) []
with_condition d c (condition_of trigger conditions) = event d.name trigger (conditions ++ c ∷ [])

abbrev pub with_value : Draft → Path → Bool → Placed → Option (List ℕ) → Said
with_value d p is_equal t (Some ls) =
    goes (behind d.events (with_condition d (record { path = p; is_equal = is_equal; at = t.at; letters = ls }) d.use_of))
with_value d p is_equal t None = syntax t

-- the table of places
unfoldable pub says : Place → Placed → Said
says keyword t = expects (is_word (codes "events") t.token) version t
says version t = expects (is_word (codes "1") t.token) head_end t
says head_end t = expects (is_mark 59 t.token) (statement []) t
says (statement es) t = named es t t.token
says (sign es name) t = expects (is_mark 61 t.token) (kind es name) t
says (kind es name) t = used es name t (use_of_token t.token)
says (first_part d) t = with_part d t.at [] t (part_of t.token)
says (part d at parts) t = with_part d at parts t (part_of t.token)
says (behind_part d at parts) t =
    if is_mark 46 t.token then goes (part d at (parts ++ 32 ∷ []))
    else (if is_mark 91 t.token then goes (left d at parts)
    else path_says d (path at parts Whole) t d.use_of)
says (left d at parts) t = with_left d at parts t (index_of t.token)
says (behind_left d at parts n) t =
    if is_mark 58 t.token then goes (right d at parts n)
    else expects (is_mark 93 t.token) (behind_path d (path at parts (Bit n))) t
says (right d at parts n) t = with_right d at parts n t (index_of t.token)
says (bracket d p) t = expects (is_mark 93 t.token) (behind_path d p) t
says (behind_path d p) t = path_says d p t d.use_of
says (value d p is_equal) t = with_value d p is_equal t (value_of t.token)
says (behind es e) t = behind_says es e t

-- ## A whole file

-- the events of a file, or its first fault
pub data Reading : Type 0 where
  events : List Event → Reading
  fault : EventFault → Reading

-- a file may end behind a whole statement
abbrev pub ends : ℕ → Place → Reading
ends len (statement es) = events es
ends len _ = fault (faults.Syntax len)

abbrev pub told : Said → (Place → Reading) → Reading
told (goes p) story = story p
told (refused f) story = fault f

-- what tokens say one after another, from a place on, in a file of so many bytes
unfoldable pub story : ℕ → Place → List Placed → Reading
story len p [] = ends len p
story len p (t ∷ ts) = told (says p t) (λ q. story len q ts)

unfoldable pub reading : List ℕ → Reading
reading text = story (length text) keyword (tokens text)
