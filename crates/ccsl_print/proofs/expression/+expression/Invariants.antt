use Rattle.std.proofs.Common.{◌+◌, ◌*◌}
use Rattle.ccsl_ast.specs.Plain.{plain}
use Rattle.ccsl_ast.proofs.Height.{height}
use Rattle.ccsl_print.proofs.expression.+expression.Given as goal

abbrev pub decreases-put_expression : goal.decreases-put_expression
decreases-put_expression l = 2 * height (plain l.tree.now)

abbrev pub decreases-put_operand : goal.decreases-put_operand
decreases-put_operand l = 2 * height (plain l.tree.now) + 1

abbrev pub decreases-put_choice : goal.decreases-put_choice
decreases-put_choice l = 2 * (height (plain l.first.now) + height (plain l.second.now)) + 1
