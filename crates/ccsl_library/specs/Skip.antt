-- Calls of the library's `skip`.
use Rattle.std.specs.Prelude.{[], ◌∷◌}
use Rattle.ccsl_kernel.specs.declared.expr.Place.{Place}
use Rattle.ccsl_kernel.specs.declared.expr.NumTerm.{NumTerm}
use Rattle.ccsl_kernel.specs.declared.expr.Value.TheVariants as value
use Rattle.ccsl_kernel.specs.Syntax.{Expression, ECall}

abbrev pub skip : Place → NumTerm → Expression
skip c n = ECall 1 0 (value.Clock c ∷ value.Number n ∷ [])
