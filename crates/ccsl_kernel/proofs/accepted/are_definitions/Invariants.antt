use Rattle.std.proofs.Common.{ℕ, ◌+◌, ◌<◌, get_or}
use Rattle.ccsl_kernel.specs.declared.expr.Expr.{Expr}
use Rattle.ccsl_kernel.specs.Plain.{plain_expr, plain_system}
use Rattle.ccsl_kernel.specs.Accepted.{IsDefinition}
use Rattle.ccsl_kernel.proofs.accepted.are_definitions.Given as goal

abbrev pub invariant-loop-i : goal.invariant-loop-i
invariant-loop-i l = (k : ℕ) (d : Expr) → k < l.i → IsDefinition (plain_system l.parts) (l.declared + k) (plain_expr (get_or l.definitions k d))
