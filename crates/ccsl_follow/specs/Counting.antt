-- HOW OFTEN CLOCKS HAVE TICKED behind rows of a trace, whose steps are followed as far as some clocks lead.
use Rattle.std.specs.Prelude.{◌≡◌, ◌<◌, ◌^◌, ℕ, List, map, length, slice_index_or}
use Rattle.ccsl_base.specs.Clocks.{ticks_in}
use Rattle.ccsl_base.specs.declared.rows.Row.{Row}
use Rattle.ccsl_causes.specs.Counted.{counted_over}
use Rattle.ccsl_kernel.specs.Lives.{Step}
use Rattle.ccsl_kernel.specs.Runs.{full_step, declared_part}
use Rattle.ccsl_kernel.specs.Verdict.{completed_rows}
use Rattle.ccsl_state.specs.Part.{HeldPart, part_of, PartStandsFor}

-- what is followed of the steps that the rows complete
abbrev pub followed_steps : HeldPart → List Row → List Step
followed_steps p rows = map (part_of p) (completed_rows p.system rows)

pub record HasCounted (p : HeldPart) (counts : List ℕ) (rows : List Row) : Type 0 where
  -- the states are those behind these steps
  pub stands : PartStandsFor p (completed_rows p.system rows)
  -- each named clock has a count, of all these steps
  pub clocks : length counts ≡ length p.system.names
  pub ticks : (x : ℕ) → x < length p.system.names → slice_index_or counts x 0 ≡ counted_over x (followed_steps p rows) 0

-- A ROW IS A STEP: which of the named clocks tick in the step that a row completes is which tick in the row, and no states are held
pub record AreRows (p : HeldPart) : Type 0 where
  pub ticks : (T : List Step) (ticks : List ℕ) (x : ℕ) → x < length p.system.names
      → ticks_in x (part_of p (full_step p.system T (declared_part p.system ticks))) ≡ ticks_in x ticks
  pub stands : (T : List Step) → length T < 2 ^ 64 → PartStandsFor p T
