-- How marks are kept: what does not change of each clock, and the sets of the clocks that are 1 now and before.
use Rattle.std.specs.Prelude.{◌≡◌, ℕ, List, Bool, true, ◌==◌, if◌then◌else◌, fold, map, slice_get}
use Rattle.std.specs.List.{AllByRecursion}
use Rattle.ccsl_base.specs.declared.limits.TheConstants.{MAX_CLOCKS}
use Rattle.ccsl_base.specs.Clocks.{ticks_in, with_clock, is_ascending, are_below}
use Rattle.ccsl_base.specs.Changes.{put_clock}
use Rattle.ccsl_vcd_read.specs.declared.marks.Mark.{Mark}
use Rattle.ccsl_vcd_read.specs.declared.users.Slot.{Slot}
use Rattle.ccsl_vcd_read.specs.declared.users.User.{User}
use Rattle.ccsl_vcd_read.specs.Users.{user_of, user_in}

abbrev pub mark_in : List ℕ → List ℕ → Slot → Mark
mark_in now before s = record {
  clock = s.clock;
  code = s.code;
  event = s.event;
  now = ticks_in s.clock now;
  before = ticks_in s.clock before;
}

abbrev pub clocks_of : List Slot → List ℕ
clocks_of ss = map (λ s. s.clock) ss

-- a change of a clock's code to a value that is 1 or not, in a dump block or not
abbrev pub put_in : Slot → Bool → Bool → List ℕ → List ℕ
put_in s one dumped now = if s.event then (if dumped then now else with_clock s.clock now) else put_clock s.clock one now

-- the same for each clock that has a code
abbrev pub put_each : ℕ → Bool → Bool → List ℕ → Slot → List ℕ
put_each code one dumped now s = if s.code == code then put_in s one dumped now else now

abbrev pub put_all : ℕ → Bool → Bool → List Slot → List ℕ → List ℕ
put_all code one dumped ss now = fold (put_each code one dumped) now ss

-- The clocks ascend, the sets are of them, and the users of each code are known.
pub record AreKept (slots : List Slot) (users : List User) (events now : List ℕ) : Type 0 where
  pub ascending : is_ascending (clocks_of slots) ≡ true
  pub below : are_below MAX_CLOCKS (clocks_of slots) ≡ true
  pub marked : AllByRecursion (λ s. ticks_in s.clock events ≡ s.event) slots
  pub inside : (x : ℕ) → ticks_in x now ≡ true → ticks_in x (clocks_of slots) ≡ true
  pub known : (code : ℕ) → user_in (slice_get users code) ≡ user_of code slots
