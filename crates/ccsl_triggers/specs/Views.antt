-- What is seen of a variable at a time, and how a dump changes it.
use Rattle.std.specs.Prelude.{ℕ, List, Bool, false, not, Option, Some, None, ◌||◌}
use Rattle.ccsl_triggers.specs.Sized.{sized}

-- the values before the time and after it, where it has them, and whether an event was recorded at it
pub record View : Type 0 where
  pub before : Option (List ℕ)
  pub after : Option (List ℕ)
  pub heard : Bool

-- nothing is recorded
abbrev pub no_view : View
no_view = record { before = None; after = None; heard = false }

-- a value of so many letters is recorded. It is a record of an event, unless it stands in a dump block.
abbrev pub with_value : ℕ → List ℕ → Bool → View → View
with_value size letters dumped v = record v { after = Some (sized size letters); heard = v.heard || not dumped }

-- the time is over
abbrev pub at_rest : View → View
at_rest v = record { before = v.after; after = v.after; heard = false }
