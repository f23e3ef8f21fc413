-- Whether an expression is dead at a step.
use Rattle.std.specs.Prelude.{ℕ, List, Bool}
use Rattle.ccsl_kernel.specs.Syntax.{Expression, System}
use Rattle.ccsl_kernel.specs.Actuals.{Actual}
use Rattle.ccsl_kernel.specs.Lives.{Step}
use Rattle.ccsl_kernel.specs.Meaning.{meaning}

-- whether it is dead at n
abbrev pub dead_at : System → List Step → ℕ → Expression → List Actual → ℕ → ℕ → Bool
dead_at K T x e ρ b n = (meaning K T x e ρ b n).dead
