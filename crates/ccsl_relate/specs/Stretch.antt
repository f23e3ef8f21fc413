-- ITEMS OVER A STRETCH OF ROWS, each with what is known of the step that it completes: the row at its place among `steps`. Where the items
-- read declared clocks alone, a row's ticks are all that they read of its step, and the rows are the steps.
use Rattle.std.specs.Prelude.{◌≡◌, ℕ, zero, suc, ◌+◌, ◌<◌, List, [], ◌∷◌, Bool, true, false, Option, Some, length, map, take, slice_get}
use Rattle.std.specs.Prelude.{slice_index_or, All, IfSome, IfNone}
use Rattle.ccsl_base.specs.declared.rows.Row.{Row}
use Rattle.ccsl_relate.specs.declared.violation.Violation.{Violation}
use Rattle.ccsl_relate.specs.declared.watched.Watched.{Watched}
use Rattle.ccsl_relate.specs.declared.watched.Watched.TheVariants.{Nothing}
use Rattle.ccsl_relate.specs.Watching.{fails_in, next_in}
use Rattle.ccsl_relate.specs.Reading.{clocks_of}

-- what is kept of an item after the steps
abbrev pub after_steps : List Row → Watched → Watched
after_steps [] w = w
after_steps (step ∷ steps) w = after_steps steps (next_in step.ticks w)

-- whether it fails at row n of them
abbrev pub fails_at : List Row → List Row → Watched → ℕ → Bool
fails_at (row ∷ rows) (step ∷ steps) w zero = fails_in row.ticks step.ticks w
fails_at (row ∷ rows) (step ∷ steps) w (suc n) = fails_at rows steps (next_in step.ticks w) n
fails_at _ _ w n = false

-- it fails at none of the rows before row `end`
abbrev pub ObeysUpTo : List Row → List Row → ℕ → Watched → Type 0
ObeysUpTo rows steps end w = (n : ℕ) → n < end → fails_at rows steps w n ≡ false

-- the first row before row `end` at which it fails
pub record IsFirstRow (rows steps : List Row) (end : ℕ) (w : Watched) (n : ℕ) : Type 0 where
  pub inside : n < end
  pub fails : fails_at rows steps w n ≡ true
  pub before : ObeysUpTo rows steps n w

-- AN ITEM TAKES THE ROWS before row `end`: the first row at which it fails, or that it fails at none and goes on by their steps
pub record TakesRows (rows steps : List Row) (end : ℕ) (old new : Watched) (first : Option ℕ) : Type 0 where
  pub clocks : clocks_of new ≡ clocks_of old
  pub fails : IfSome first (IsFirstRow rows steps end old)
  pub none : IfNone first (ObeysUpTo rows steps end old)
  pub next : IfNone first (new ≡ after_steps (take end steps) old)

-- the violation of the first item that fails at the first row at which one of some items does, where these have numbers from `start` on
-- and so many other rows came before
pub record IsFirstViolation (rows steps : List Row) (others start : ℕ) (kept : List Watched) (v : Violation) : Type 0 where
  pub row : ℕ
  pub place : ℕ
  pub at : Row
  pub inside : row < length steps
  pub within : place < length kept
  pub fails : fails_at rows steps (slice_index_or kept place Nothing) row ≡ true
  pub earlier : (k : ℕ) → k < length kept → ObeysUpTo rows steps row (slice_index_or kept k Nothing)
  pub lower : (k : ℕ) → k < place → fails_at rows steps (slice_index_or kept k Nothing) row ≡ false
  pub at_is : slice_get rows row ≡ Some at
  pub violation : v ≡ record { step = others + row; time = at.time; item = start + place }

-- SOME ITEMS TAKE THE ROWS: their first violation, or that none fails and all go on by the steps
pub record TakeRows (rows steps : List Row) (others start : ℕ) (old new : List Watched) (found : Option Violation) : Type 0 where
  pub clocks : map clocks_of new ≡ map clocks_of old
  pub fails : IfSome found (IsFirstViolation rows steps others start old)
  pub none : IfNone found (All (ObeysUpTo rows steps (length steps)) old)
  pub next : IfNone found (new ≡ map (after_steps steps) old)
