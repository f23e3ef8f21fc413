-- An operator goes to its operands.
use Rattle.std.proofs.Common.{◌+◌, ◌*◌}
use Rattle.ccsl_ast.specs.Plain.{plain}
use Rattle.ccsl_ast.proofs.Height.{height}
use Rattle.ccsl_expand.proofs.expression.+resolving.Given as goal

abbrev pub decreases-resolve : goal.decreases-resolve
decreases-resolve l = 4 * height (plain l.tree.now)

abbrev pub decreases-operand : goal.decreases-operand
decreases-operand l = 4 * height (plain l.tree.now) + 1

abbrev pub decreases-filtered : goal.decreases-filtered
decreases-filtered l = 4 * height (plain l.tree.now) + 2

abbrev pub decreases-operands : goal.decreases-operands
decreases-operands l = 4 * (height (plain l.left.now) + height (plain l.right.now)) + 2

abbrev pub decreases-counted : goal.decreases-counted
decreases-counted l = 4 * height (plain l.tree.now) + 2

abbrev pub decreases-choice : goal.decreases-choice
decreases-choice l = 4 * (height (plain l.first.now) + height (plain l.second.now)) + 3
