-- THE VERDICT ON A TRACE: where recorded rows break an item, and the first such place.
-- The rows are judged against the completion of their declared ticks. `bound` is the set of recorded clocks.
use Rattle.std.specs.Prelude.{ℕ, ◌+◌, List, Bool, not, ◌&&◌, ◌||◌, Option, Some, None, map, find, length, slice_index, nat_lt, is_some, unwrap_or}
use Rattle.ccsl_base.specs.Clocks.{ticks_in}
use Rattle.ccsl_base.specs.declared.rows.Row.{Row}
use Rattle.ccsl_formula.specs.Formula.{same}
use Rattle.ccsl_kernel.specs.Syntax.{System, item_count}
use Rattle.ccsl_kernel.specs.Lives.{Step, steps, step_at}
use Rattle.ccsl_kernel.specs.Runs.{holds_at, declared_part, completed}

pub data Verdict : Type 0 where
  Run : (steps : ℕ) → Verdict
  Violated : (step time item : ℕ) → Verdict

-- the one list of steps that the declared ticks of the rows give
abbrev pub completed_rows : System → List Row → List Step
completed_rows K rows = completed K (map (λ row. declared_part K row.ticks) rows)

-- whether the recorded tick of clock x at step n is the computed one
abbrev pub is_as_recorded : List Row → List Step → ℕ → ℕ → Bool
is_as_recorded rows X n x = same (ticks_in x (step_at (map (λ row. row.ticks) rows) n)) (ticks_in x (step_at X n))

-- whether item number i is the definition of a recorded clock
abbrev pub is_recorded : System → List ℕ → ℕ → Bool
is_recorded K bound i = nat_lt i (length K.definitions) && ticks_in (K.declared + i) bound

-- whether item number i is violated at step n: its formula fails, or it defines a recorded clock that ticked otherwise
abbrev pub is_violated : System → List ℕ → List Row → ℕ → ℕ → Bool
is_violated K bound rows n i =
    let X = completed_rows K rows in
    not (holds_at K X n i) || (is_recorded K bound i && not (is_as_recorded rows X n (K.declared + i)))

-- the first item that is violated at step n
abbrev pub first_item : System → List ℕ → List Row → ℕ → Option ℕ
first_item K bound rows n = find (is_violated K bound rows n) (steps 0 (item_count K))

-- the first step at which an item is violated
abbrev pub first_step : System → List ℕ → List Row → Option ℕ
first_step K bound rows = find (λ n. is_some (first_item K bound rows n)) (steps 0 (length rows))

abbrev pub verdict_at : System → List ℕ → List Row → Option ℕ → Verdict
verdict_at K bound rows None = Run (length rows)
verdict_at K bound rows (Some n) = Violated n (slice_index (map (λ row. row.time) rows) n) (unwrap_or (first_item K bound rows n) 0)

-- the least pair of a step and an item that is violated there, with the row's time; or a run
abbrev pub verdict : System → List ℕ → List Row → Verdict
verdict K bound rows = verdict_at K bound rows (first_step K bound rows)
