-- The whole row of a system, where it is laid out.
use Rattle.std.specs.Prelude.{◌≡◌, ℕ, List, length}
use Rattle.ccsl_kernel.specs.Cells.{cells}
use Rattle.ccsl_state.specs.declared.layout.Layout.{Layout}
use Rattle.ccsl_state.specs.Held.{Held, calls_of}

abbrev pub held_at : Layout → List ℕ → Held
held_at lay row = record { system = lay.system.now; row = row }

-- the table of calls is the system's, and the row has just its cells
pub record IsWhole (lay : Layout) (row : List ℕ) : Type 0 where
  pub calls : lay.earlier.now ≡ calls_of lay.system.now
  pub size : length row ≡ cells lay.system.now
