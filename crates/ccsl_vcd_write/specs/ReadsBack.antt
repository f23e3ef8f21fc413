-- When a written trace reads back, and as which rows.
use Rattle.std.specs.Prelude.{◌≢◌, ℕ, ◌+◌, ◌≤◌, List, [], ◌∷◌, length, All, IsTrue}
use Rattle.ccsl_base.specs.Clocks.{is_ascending}
use Rattle.ccsl_base.specs.declared.rows.Row.{Row}
use Rattle.ccsl_kernel.specs.Syntax.{System}
use Rattle.ccsl_vcd.specs.declared.limits.Limits.{Limits}
use Rattle.ccsl_vcd_write.specs.Text.{written_part, vcd_text}

-- a set of clocks, of which one at least is written
pub record IsShown (K : System) (step : List ℕ) : Type 0 where
  pub set : IsTrue (is_ascending step)
  pub ticks : written_part K step ≢ []

-- each step shows, and the text keeps to the limits of the reading
pub record IsReadable (K : System) (limits : Limits) (steps : List (List ℕ)) : Type 0 where
  pub shows : All (IsShown K) steps
  pub bytes : length (vcd_text K steps) ≤ limits.bytes
  pub vars : K.written ≤ limits.vars
  pub scopes : 1 ≤ limits.scopes

-- a row for each step, from number k on: its time is k, and its ticks are those of the written clocks
abbrev pub rows_from : ℕ → System → List (List ℕ) → List Row
rows_from k K [] = []
rows_from k K (step ∷ steps) = record { time = k; ticks = written_part K step } ∷ rows_from (k + 1) K steps

abbrev pub rows_of_steps : System → List (List ℕ) → List Row
rows_of_steps K steps = rows_from 0 K steps
