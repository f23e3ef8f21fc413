-- How many ticks some steps show in a written trace.
use Rattle.std.specs.Prelude.{ℕ, ◌+◌, List, [], ◌∷◌, length}
use Rattle.ccsl_kernel.specs.Syntax.{System}
use Rattle.ccsl_kernel.specs.Lives.{Step}
use Rattle.ccsl_vcd_write.specs.Text.{written_part}

-- those of the clocks that are not hidden
abbrev pub ticks_written : System → List Step → ℕ
ticks_written K [] = 0
ticks_written K (step ∷ T) = length (written_part K step) + ticks_written K T
