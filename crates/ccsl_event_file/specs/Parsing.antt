-- What the code reads, beside what the tokens say.
use Rattle.std.specs.Prelude.{◌≡◌, ℕ, List, [], ◌∷◌, ◌++◌, map, Bool, true, false, Option, Some, None, Result, Ok, Err}
use Rattle.ccsl_event_file.specs.declared.event.Located.{Located}
use Rattle.ccsl_event_file.specs.declared.event.Condition as conditions
use Rattle.ccsl_event_file.specs.declared.event.Trigger as triggers
use Rattle.ccsl_event_file.specs.declared.event.Event as code
use Rattle.ccsl_event_file.specs.declared.event.Trigger.TheVariants as t
use Rattle.ccsl_event_file.specs.declared.fault.EventFault.{EventFault}
use Rattle.ccsl_event_file.specs.declared.fault.EventFault.TheVariants as faults
use Rattle.ccsl_event_file.specs.Tokens.{Token, Placed, token, tokens_in}
use Rattle.ccsl_event_file.specs.declared.statement.Moment.{Moment}
use Rattle.ccsl_event_file.specs.declared.statement.Moment.TheVariants as m
use Rattle.ccsl_event_file.specs.declared.statement.Kind.{Kind}
use Rattle.ccsl_event_file.specs.declared.statement.Kind.TheVariants as k
use Rattle.ccsl_event_file.specs.File.{Path, Condition, Trigger, Event, rise, fall, change, becomes, record_of, path, event, Place, keyword, statement, sign}
use Rattle.ccsl_event_file.specs.File.{kind, behind, Reading, fault, events, story, part_of, Use, trigger_of, becoming, condition_of, names_of}
use Rattle.ccsl_event_file.specs.Values.{value_of}

-- ## What the code has, as it is said

abbrev pub path_in : Located → Path
path_in l = path l.at l.path.parts.items l.path.select

abbrev pub condition_in : conditions.Condition → Condition
condition_in c = record { path = path_in c.path; is_equal = c.is_equal; at = c.at; letters = c.letters.items }

abbrev pub trigger_in : triggers.Trigger → Trigger
trigger_in (t.Rise l) = rise (path_in l)
trigger_in (t.Fall l) = fall (path_in l)
trigger_in (t.Change l) = change (path_in l)
trigger_in (t.Becomes c) = becomes (condition_in c)
trigger_in (t.Record l) = record_of (path_in l)

abbrev pub event_in : code.Event → Event
event_in e = event e.name.items (trigger_in e.trigger) (map condition_in e.conditions.items)

-- ## Tokens that are left

-- those in the rest of a file of so many bytes
abbrev pub ahead : ℕ → List ℕ → List Placed
ahead len rest = tokens_in len (token 0) rest

-- the place of the next one, or of the end
abbrev pub place_of : ℕ → List Placed → ℕ
place_of len [] = len
place_of len (t ∷ ts) = t.at

abbrev pub next_is : (Token → Bool) → List Placed → Bool
next_is test [] = false
next_is test (t ∷ ts) = test t.token

abbrev pub next_token : List Placed → Option Token
next_token [] = None
next_token (t ∷ ts) = Some t.token

abbrev pub behind_next : List Placed → List Placed
behind_next [] = []
behind_next (t ∷ ts) = ts

-- the next one was taken, and it passes a test; or it does not, and stays
pub record TakesOne (test : Token → Bool) (old new : List Placed) : Type 0 where
  pub next : Placed
  pub is : old ≡ next ∷ new
  pub passes : test next.token ≡ true

pub record TakesNone (test : Token → Bool) (old new : List Placed) : Type 0 where
  pub same : new ≡ old
  pub fails : next_is test old ≡ false

abbrev pub Takes : Bool → (Token → Bool) → List Placed → List Placed → Type 0
Takes true test old new = TakesOne test old new
Takes false test old new = TakesNone test old new

-- it was taken, or is refused where it stands
abbrev pub Expects : {X : Type 0} → Result X EventFault → (Token → Bool) → ℕ → List Placed → List Placed → Type 0
Expects (Ok x) test len old new = TakesOne test old new
Expects (Err f) test len old new = (next_is test old ≡ false) × (f ≡ faults.Syntax (place_of len old))

-- a value was read of it, or it has none
pub record ReadsOne {X : Type 0} (of : Token → Option X) (x : X) (old new : List Placed) : Type 0 where
  pub next : Placed
  pub is : old ≡ next ∷ new
  pub value : of next.token ≡ Some x

abbrev pub next_value : {X : Type 0} → (Token → Option X) → List Placed → Option X
next_value of [] = None
next_value of (t ∷ ts) = of t.token

-- this is the fault of a reading, unless memory ran out
abbrev pub IsFault : EventFault → Reading → Type 0
IsFault faults.Memory r = Unit {0}
IsFault f r = r ≡ fault f

-- there is none, or memory ran out
abbrev pub IsValueFault : {Y : Type 0} → EventFault → (Token → Option Y) → ℕ → List Placed → Type 0
IsValueFault faults.Memory of len old = Unit {0}
IsValueFault f of len old = (next_value of old ≡ None) × (f ≡ faults.Syntax (place_of len old))

abbrev pub ReadsValue : {X Y : Type 0} → Result X EventFault → (Token → Option Y) → (X → Y) → ℕ → List Placed → List Placed → Type 0
ReadsValue (Ok x) of seen len old new = ReadsOne of (seen x) old new
ReadsValue (Err f) of seen len old new = IsValueFault f of len old

-- What was read leads from one place to another, behind the tokens that were taken; or this is what the rest says.
abbrev pub Reads : {X : Type 0} → Result X EventFault → ℕ → Place → List Placed → (X → Place) → List Placed → Type 0
Reads (Ok x) len p old q new = story len p old ≡ story len (q x) new
Reads (Err f) len p old q new = IsFault f (story len p old)

-- the events of a whole file, or its first fault
abbrev pub IsReading : Result (List Event) EventFault → Reading → Type 0
IsReading (Ok es) r = r ≡ events es
IsReading (Err f) r = IsFault f r

-- a part of a path was put behind others
pub record PutsPart (parts now : List ℕ) (old new : List Placed) : Type 0 where
  pub next : Placed
  pub text : List ℕ
  pub is : old ≡ next ∷ new
  pub value : part_of next.token ≡ Some text
  pub put : now ≡ parts ++ text

abbrev pub IsPart : {X : Type 0} → Result X EventFault → ℕ → List ℕ → List ℕ → List Placed → List Placed → Type 0
IsPart (Ok x) len parts now old new = PutsPart parts now old new
IsPart (Err f) len parts now old new = IsValueFault f part_of len old

abbrev pub part_seen : Option Token → Option (List ℕ)
part_seen None = None
part_seen (Some t) = part_of t

abbrev pub value_seen : Option Token → Option (List ℕ)
value_seen None = None
value_seen (Some t) = value_of t

-- whether a condition is read
abbrev pub is_condition : Use → Bool
is_condition (trigger_of made) = false
is_condition becoming = true
is_condition (condition_of trigger conditions) = true

abbrev pub conditions_in : List conditions.Condition → List Condition
conditions_in cs = map condition_in cs

-- ## Statements

abbrev pub made_of : Moment → Path → Trigger
made_of m.Rise p = rise p
made_of m.Fall p = fall p
made_of m.Change p = change p
made_of m.Record p = record_of p

abbrev pub use_of_kind : Kind → Use
use_of_kind (k.Of moment) = trigger_of (made_of moment)
use_of_kind k.Becomes = becoming

abbrev pub ReadsTrigger : Result triggers.Trigger EventFault → ℕ → List Placed → List Placed → Type 0
ReadsTrigger result len old new =
    (es : List Event) (name : List ℕ) → Reads result len (kind es name) old (λ t. behind es (event name (trigger_in t) [])) new

-- the conditions behind a trigger
abbrev pub ReadsConditions : {C : Type 0} → Result C EventFault → (C → List Condition) → ℕ → List Placed → List Placed → Type 0
ReadsConditions result of len old new =
    (es : List Event) (name : List ℕ) (t : Trigger) →
    Reads result len (behind es (event name t [])) old (λ cs. behind es (event name t (of cs))) new

-- a name behind events of these names
abbrev pub ReadsName : {N : Type 0} → Result N EventFault → (N → List ℕ) → List (List ℕ) → ℕ → List Placed → List Placed → Type 0
ReadsName result of names len old new =
    (es : List Event) → names ≡ names_of es → Reads result len (statement es) old (λ name. sign es (of name)) new

abbrev pub ReadsStatement : Result code.Event EventFault → List (List ℕ) → ℕ → List Placed → List Placed → Type 0
ReadsStatement result names len old new =
    (es : List Event) → names ≡ names_of es → Reads result len (statement es) old (λ e. statement (es ++ event_in e ∷ [])) new

abbrev pub ReadsHead : {X : Type 0} → Result X EventFault → ℕ → List Placed → List Placed → Type 0
ReadsHead result len old new = Reads result len keyword old (λ _. statement []) new
