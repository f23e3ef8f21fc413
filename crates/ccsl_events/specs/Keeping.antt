-- What the variables that are kept leave on the way through a time, without where they lie in memory.
use Rattle.std.specs.Prelude.{◌≡◌, ◌⊎◌, ℕ, zero, suc, List, [], ◌∷◌, ◌++◌, length, map, Bool, true, false, Option, Some, None, ◌&&◌, if◌then◌else◌, nat_lt}
use Rattle.std.specs.Prelude.{slice_get, slice_set, slice_index_or, bytes_eq, ◌≤◌}
use Rattle.std.specs.declared.vec.Vec.{Vec}
use Rattle.std.specs.declared.alloc.Global.{Global}
use Rattle.ccsl_base.specs.declared.limits.TheConstants.{MAX_CLOCKS}
use Rattle.ccsl_base.specs.Clocks.{ticks_in, with_clock}
use Rattle.ccsl_triggers.specs.declared.watch.Watch.{Watch}
use Rattle.ccsl_triggers.specs.Views.{View, at_rest}
use Rattle.ccsl_triggers.specs.Held.{Held, held, new_held, set_held, settle_held, forget_held, IsQuiet}
use Rattle.ccsl_triggers.specs.Triggers.{variable_of, happens}
use Rattle.ccsl_events.specs.Dump.{Variable, Plan, is_declared, happens_in, row_of, has_row}
use Rattle.ccsl_events.specs.declared.codes.Entry.{Entry}
use Rattle.ccsl_events.specs.declared.codes.Entry.TheVariants.{Undeclared, Unused, Used}
use Rattle.ccsl_events.specs.Places.{entry_of}
use Rattle.ccsl_events.specs.declared.values.Values.{Values}

abbrev pub fires : List Watch → (ℕ → View) → ℕ → Bool
fires watches views name = nat_lt name MAX_CLOCKS && happens_in (slice_get watches name) views

-- a set with those of some names that happen
abbrev pub with_names : List ℕ → List Watch → (ℕ → View) → List ℕ → List ℕ
with_names [] watches views set = set
with_names (name ∷ names) watches views set =
    with_names names watches views (if fires watches views name then with_clock name set else set)

-- the names whose triggers read a variable
abbrev pub items_in : Option (Vec ℕ Global) → List ℕ
items_in None = []
items_in (Some names) = names.items

abbrev pub users_of : List (Vec ℕ Global) → ℕ → List ℕ
users_of users number = items_in (slice_get users number)

-- each event is a user of the variable that its trigger reads
abbrev pub AreUsers : List Watch → List (Vec ℕ Global) → Type 0
AreUsers watches users =
    (name : ℕ) (w : Watch) → slice_get watches name ≡ Some w → ticks_in name (users_of users (variable_of w.trigger)) ≡ true

-- the same of the names whose triggers read some variables
abbrev pub with_users : List ℕ → List (Vec ℕ Global) → List Watch → (ℕ → View) → List ℕ → List ℕ
with_users [] users watches views set = set
with_users (number ∷ numbers) users watches views set =
    with_users numbers users watches views (with_names (users_of users number) watches views set)

-- A name waits for a record of a variable alone, and its trigger alone reads the variable, which some names read.
pub record IsSoleOf (watches : List Watch) (names : List ℕ) (n name : ℕ) : Type 0 where
  pub watch : Watch
  pub there : slice_get watches name ≡ Some watch
  pub reads : variable_of watch.trigger ≡ n
  pub recorded : (views : ℕ → View) → happens watch views ≡ (views n).heard
  pub only : names ≡ name ∷ []

-- the name that does so, by the number of a variable
abbrev pub sole_in : Option (Option ℕ) → Option ℕ
sole_in None = None
sole_in (Some name) = name

abbrev pub sole_at : List (Option ℕ) → ℕ → Option ℕ
sole_at names n = sole_in (slice_get names n)

abbrev pub AreSole : List Watch → List (Vec ℕ Global) → List (Option ℕ) → Type 0
AreSole watches users names = (n name : ℕ) → sole_at names n ≡ Some name → IsSoleOf watches (users_of users n) n name

-- the name of a variable is among some
pub record IsNamed (names : List (Option ℕ)) (set : List ℕ) (n : ℕ) : Type 0 where
  pub name : ℕ
  pub sole : sole_at names n ≡ Some name
  pub among : ticks_in name set ≡ true

-- a record of the variable of a name is heard
pub record IsRecorded (names : List (Option ℕ)) (views : ℕ → View) (name : ℕ) : Type 0 where
  pub variable : ℕ
  pub sole : sole_at names variable ≡ Some name
  pub heard : (views variable).heard ≡ true

-- what is kept under a number; past the last nothing is
abbrev pub held_at : List Held → ℕ → Held
held_at hs number = slice_index_or hs number (new_held 0)

-- one of some variables is another now
abbrev pub replaced : ℕ → (Held → Held) → List Held → List Held
replaced number change hs = slice_set hs number (change (held_at hs number))

-- the variables with some numbers are settled
abbrev pub settle_each : List ℕ → List Held → List Held
settle_each [] hs = hs
settle_each (number ∷ numbers) hs = settle_each numbers (replaced number settle_held hs)

-- the variable that the trigger of a name reads
abbrev pub read_by : Option Watch → List ℕ
read_by None = []
read_by (Some w) = variable_of w.trigger ∷ []

-- the variables that the triggers of some names read are settled
abbrev pub settle_read : List ℕ → List Watch → List Held → List Held
settle_read [] watches hs = hs
settle_read (name ∷ names) watches hs = settle_read names watches (settle_each (read_by (slice_get watches name)) hs)

-- what else is kept stays
pub record SameTables (old new : Values) : Type 0 where
  pub codes : new.codes ≡ old.codes
  pub users : new.users ≡ old.users
  pub watches : new.watches ≡ old.watches
  pub none : new.none ≡ old.none
  pub sole_names : new.sole_names ≡ old.sole_names

-- the variables that are kept, and the numbers of those that changed at the present time
pub record Kept : Type 0 where
  pub all : List Held
  pub touched : List ℕ

abbrev pub kept : Values → Kept
kept v = record { all = map held v.signals.items; touched = v.touched.items }

abbrev pub put_touched : ℕ → Bool → List ℕ → List ℕ
put_touched number true touched = touched
put_touched number false touched = touched ++ number ∷ []

abbrev pub touch_held : List ℕ → Bool → Held → Held
touch_held letters dumped h = record (set_held letters dumped h) { touched = true }

-- a value of one variable
abbrev pub set_one : ℕ → List ℕ → Bool → Kept → Kept
set_one number letters dumped k = record {
  all = replaced number (touch_held letters dumped) k.all;
  touched = put_touched number (held_at k.all number).touched k.touched;
}

-- a value of the variables of a code, so many at most, of which the first has a number
abbrev pub set_chain : ℕ → Option ℕ → List ℕ → Bool → Kept → Kept
set_chain zero first letters dumped k = k
set_chain (suc most) None letters dumped k = k
set_chain (suc most) (Some number) letters dumped k =
    if nat_lt number (length k.all) then set_chain most (held_at k.all number).next letters dumped (set_one number letters dumped k) else k

-- whether a code is declared of which this is known
abbrev pub is_known : Entry → Bool
is_known Undeclared = false
is_known Unused = true
is_known (Used first) = true

abbrev pub forget_kept : Kept → Kept
forget_kept k = record k { all = map forget_held k.all }

-- the numbers of these variables
abbrev pub chain : ℕ → Option ℕ → List Held → List ℕ
chain zero first hs = []
chain (suc most) None hs = []
chain (suc most) (Some number) hs = if nat_lt number (length hs) then number ∷ chain most (held_at hs number).next hs else []

-- whether a variable has a code
abbrev pub has_code : List ℕ → Option Variable → Bool
has_code code None = false
has_code code (Some x) = bytes_eq x.code code

abbrev pub reads : Plan → List ℕ → ℕ → Bool
reads plan code number = has_code code (slice_get plan.variables number)

-- what is known of a code is what is planned
abbrev pub Knows : Plan → List Held → List ℕ → Entry → Type 0
Knows plan hs code Undeclared = is_declared plan code ≡ false
Knows plan hs code Unused = (is_declared plan code ≡ true) × ((n : ℕ) → reads plan code n ≡ false)
Knows plan hs code (Used first) =
    (is_declared plan code ≡ true) × ((n : ℕ) → reads plan code n ≡ ticks_in n (chain (length hs) (Some first) hs))

-- a planned variable is kept under its number, with its size
abbrev pub SizeIn : Option Variable → ℕ → Type 0
SizeIn None size = Unit {0}
SizeIn (Some x) size = size ≡ x.size

-- What is kept suits a plan, and this is seen of the variables.
pub record Keeps (plan : Plan) (views : ℕ → View) (v : Values) : Type 0 where
  pub watches : v.watches.items ≡ plan.watches
  pub few : length plan.watches ≤ MAX_CLOCKS
  pub none : v.none ≡ []
  pub users : AreUsers plan.watches v.users.items
  pub codes : (code : List ℕ) → Knows plan (map held v.signals.items) code (entry_of v.codes code)
  pub sizes : (n : ℕ) → SizeIn (slice_get plan.variables n) (held_at (map held v.signals.items) n).size
  pub seen : (n : ℕ) → (held_at (map held v.signals.items) n).view ≡ views n
  pub quiet : (n : ℕ) → ticks_in n v.touched.items ≡ false → IsQuiet (views n) ⊎ IsNamed v.sole_names.items v.names n
  pub sole : AreSole plan.watches v.users.items v.sole_names.items
  pub recorded : (name : ℕ) → ticks_in name v.names ≡ true → IsRecorded v.sole_names.items views name
  pub flags : (n : ℕ) → (held_at (map held v.signals.items) n).touched ≡ true → ticks_in n v.touched.items ≡ true

-- WHAT THE END OF A TIME LEAVES: its row is written, if it has one, and the variables are at rest.
pub record Settles (plan : Plan) (now : ℕ) (views : ℕ → View) (is_row : Bool) (v : Values) (old new : List ℕ) : Type 0 where
  pub row : new ≡ old ++ row_of plan now views
  pub is_one : is_row ≡ has_row plan views
  pub keeps : Keeps plan (λ n. at_rest (views n)) v
