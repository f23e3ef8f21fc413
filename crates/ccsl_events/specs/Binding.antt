-- WHAT A FILE OF EVENTS MEANS FOR A HEADER: the variables of the dump that its paths read, and what each of its events waits for.
-- Each path means bits of a variable; else the first fault is answered, in the order of the file.
use Rattle.std.specs.Prelude.{ℕ, ◌-◌, List, [], ◌∷◌, ◌++◌, length, map, filter, replicate, Bool, not, Result, Ok, Err, nat_lt, ◌==◌, ◌&&◌, if◌then◌else◌}
use Rattle.std.specs.Prelude.{slice_index_or}
use Rattle.std.specs.List.{flat_map, position_or_len}
use Rattle.ccsl_scopes.specs.declared.select.Bits.{Bits}
use Rattle.ccsl_scopes.specs.declared.lookup.Target.{Target}
use Rattle.ccsl_scopes.specs.declared.lookup.Resolution.{Resolution}
use Rattle.ccsl_scopes.specs.declared.lookup.Resolution.TheVariants.{Found, Unknown, Ambiguous}
use Rattle.ccsl_scopes.specs.declared.variable.Kind.{Kind}
use Rattle.ccsl_scopes.specs.declared.variable.Kind.TheVariants as kinds
use Rattle.ccsl_scopes.specs.declared.variable.Variable as declared
use Rattle.ccsl_scopes.specs.Paths.{resolved}
use Rattle.ccsl_event_file.specs.declared.fault.EventFault.{EventFault}
use Rattle.ccsl_event_file.specs.declared.fault.EventFault.TheVariants as faults
use Rattle.ccsl_event_file.specs.File as file
use Rattle.ccsl_triggers.specs.Sized.{filler}
use Rattle.ccsl_events.specs.declared.binder.Source.{Source}
use Rattle.ccsl_events.specs.Dump.{Variable}

-- ## What an event waits for, on variables of any description

-- some bits of a variable
pub record Part (V : Type 0) : Type 0 where
  pub variable : V
  pub bits : Bits

-- letters that some bits are to be, or not to be
pub record Goal (V : Type 0) : Type 0 where
  pub part : Part V
  pub is_equal : Bool
  pub letters : List ℕ

pub data Trigger (V : Type 0) : Type 0 where
  rise : Part V → Trigger V
  fall : Part V → Trigger V
  change : Part V → Trigger V
  becomes : Goal V → Trigger V
  record_of : V → Trigger V

-- what makes an event happen, and what has to hold before that
pub record Watch (V : Type 0) : Type 0 where
  pub trigger : Trigger V
  pub conditions : List (Goal V)

-- ## What a path means

abbrev pub found : ℕ → Resolution → Result Target EventFault
found at (Found t) = Ok t
found at Unknown = Err (faults.Unknown at)
found at Ambiguous = Err (faults.Ambiguous at)

-- the bits that a path means, among the variables of a header
abbrev pub target : List declared.Variable → file.Path → Result Target EventFault
target vs p = found p.at (resolved p.parts p.select vs)

-- a variable is read by its code and its size: declared variables that have both in common have one value
abbrev pub source_of : Target → Source
source_of t = record { code = t.code; size = t.size }

abbrev pub part_of : Target → Part Source
part_of t = record { variable = source_of t; bits = t.bits }

-- ## What an event means

abbrev pub and_then : {A B : Type 0} → Result A EventFault → (A → Result B EventFault) → Result B EventFault
and_then (Ok x) next = next x
and_then (Err f) next = Err f

abbrev pub made : {A B : Type 0} → (A → B) → Result A EventFault → Result B EventFault
made of (Ok x) = Ok (of x)
made of (Err f) = Err f

abbrev pub in_front : {A : Type 0} → Result A EventFault → Result (List A) EventFault → Result (List A) EventFault
in_front (Ok x) (Ok xs) = Ok (x ∷ xs)
in_front (Ok x) (Err f) = Err f
in_front (Err f) rest = Err f

-- the meaning of each, or the first fault
abbrev pub each : {A B : Type 0} → (A → Result B EventFault) → List A → Result (List B) EventFault
each meaning [] = Ok []
each meaning (x ∷ xs) = in_front (meaning x) (each meaning xs)

-- a rise and a fall are of one bit
abbrev pub of_one_bit : ℕ → Target → Result Target EventFault
of_one_bit at t = if t.bits.width == 1 then Ok t else Err (faults.NotOneBit at)

-- records are of an event
abbrev pub of_event : ℕ → Target → Kind → Result Target EventFault
of_event at t kinds.Event = Ok t
of_event at t kinds.Bits = Err (faults.NoEvent at)
of_event at t kinds.Other = Err (faults.NoEvent at)

-- a value has at most as many letters as its path has bits
abbrev pub of_value : file.Condition → Target → Result Target EventFault
of_value c t = if nat_lt t.bits.width (length c.letters) then Err (faults.TooWide c.at) else Ok t

abbrev pub bit : List declared.Variable → file.Path → Result Target EventFault
bit vs p = and_then (target vs p) (of_one_bit p.at)

abbrev pub recorded : List declared.Variable → file.Path → Result Target EventFault
recorded vs p = and_then (target vs p) (λ t. of_event p.at t t.kind)

abbrev pub compared : List declared.Variable → file.Condition → Result Target EventFault
compared vs c = and_then (target vs c.path) (of_value c)

-- The letters of a value of so many bits: those that it has, behind as many as it has not. These are 0 in front of 0 and 1, and
-- else like its first letter.
abbrev pub widened : ℕ → List ℕ → List ℕ
widened width letters = replicate (width - length letters) (filler letters) ++ letters

abbrev pub goal_on : file.Condition → Target → Goal Source
goal_on c t = record { part = part_of t; is_equal = c.is_equal; letters = widened t.bits.width c.letters }

abbrev pub goal : List declared.Variable → file.Condition → Result (Goal Source) EventFault
goal vs c = made (goal_on c) (compared vs c)

abbrev pub trigger : List declared.Variable → file.Trigger → Result (Trigger Source) EventFault
trigger vs (file.rise p) = made (λ t. rise (part_of t)) (bit vs p)
trigger vs (file.fall p) = made (λ t. fall (part_of t)) (bit vs p)
trigger vs (file.change p) = made (λ t. change (part_of t)) (target vs p)
trigger vs (file.becomes c) = made becomes (goal vs c)
trigger vs (file.record_of p) = made (λ t. record_of (source_of t)) (recorded vs p)

abbrev pub watch_on : Result (Trigger Source) EventFault → Result (List (Goal Source)) EventFault → Result (Watch Source) EventFault
watch_on (Ok t) (Ok gs) = Ok (record { trigger = t; conditions = gs })
watch_on (Ok t) (Err f) = Err f
watch_on (Err f) conditions = Err f

abbrev pub watch : List declared.Variable → file.Event → Result (Watch Source) EventFault
watch vs e = watch_on (trigger vs e.trigger) (each (goal vs) e.conditions)

-- ## The variables that are read

abbrev pub read_by_trigger : {V : Type 0} → Trigger V → V
read_by_trigger (rise p) = p.variable
read_by_trigger (fall p) = p.variable
read_by_trigger (change p) = p.variable
read_by_trigger (becomes g) = g.part.variable
read_by_trigger (record_of v) = v

abbrev pub read_by_goal : {V : Type 0} → Goal V → V
read_by_goal g = g.part.variable

-- in the order in which the file names them
abbrev pub read_by : {V : Type 0} → Watch V → List V
read_by w = read_by_trigger w.trigger ∷ map read_by_goal w.conditions

abbrev pub is_same : Source → Source → Bool
is_same s t = s.code == t.code && s.size == t.size

-- each once, where it stands first
abbrev pub different : List Source → List Source
different [] = []
different (s ∷ ss) = s ∷ filter (λ t. not (is_same t s)) (different ss)

-- ## Numbers in place of variables

abbrev pub part_with : {V W : Type 0} → (V → W) → Part V → Part W
part_with name p = record { variable = name p.variable; bits = p.bits }

abbrev pub goal_with : {V W : Type 0} → (V → W) → Goal V → Goal W
goal_with name g = record { part = part_with name g.part; is_equal = g.is_equal; letters = g.letters }

abbrev pub trigger_with : {V W : Type 0} → (V → W) → Trigger V → Trigger W
trigger_with name (rise p) = rise (part_with name p)
trigger_with name (fall p) = fall (part_with name p)
trigger_with name (change p) = change (part_with name p)
trigger_with name (becomes g) = becomes (goal_with name g)
trigger_with name (record_of v) = record_of (name v)

abbrev pub watch_with : {V W : Type 0} → (V → W) → Watch V → Watch W
watch_with name w = record { trigger = trigger_with name w.trigger; conditions = map (goal_with name) w.conditions }

-- the place of a variable among those that are read
abbrev pub number_in : List Source → Source → ℕ
number_in sources s = position_or_len (is_same s) sources

-- ## A whole file

-- A plan of the dump's body, but for where its letters lie in memory: the declared codes, the variables that are read, what each
-- event waits for, with these variables by their numbers, and whether gaps are skipped.
pub record Bound : Type 0 where
  pub codes : List (List ℕ)
  pub variables : List Variable
  pub watches : List (Watch ℕ)
  pub skips : Bool

abbrev pub variable_of : List (List ℕ) → Source → Variable
variable_of codes s = record { code = slice_index_or codes s.code []; size = s.size }

abbrev pub numbered : List (List ℕ) → Bool → List Source → List (Watch Source) → Bound
numbered codes skips sources ws = record {
  codes = codes;
  variables = map (variable_of codes) sources;
  watches = map (watch_with (number_in sources)) ws;
  skips = skips;
}

-- by the variables and the codes that a header declares
unfoldable pub bound : List file.Event → List declared.Variable → List (List ℕ) → Bool → Result Bound EventFault
bound es vs codes skips = made (λ ws. numbered codes skips (different (flat_map read_by ws)) ws) (each (watch vs) es)
