use Rattle.std.proofs.Common.{◌+◌, ◌*◌}
use Rattle.ccsl_parse.proofs.expression.+expr.Given as goal

abbrev pub decreases-expr_at : goal.decreases-expr_at
decreases-expr_at l = 6 * l.room.levels

abbrev pub decreases-expr_with : goal.decreases-expr_with
decreases-expr_with l = 6 * l.room.levels + 5

abbrev pub decreases-choice_at : goal.decreases-choice_at
decreases-choice_at l = 6 * l.room.levels + 4

abbrev pub decreases-branches_at : goal.decreases-branches_at
decreases-branches_at l = 6 * l.room.levels + 3

abbrev pub decreases-rest_at : goal.decreases-rest_at
decreases-rest_at l = 6 * l.room.levels + 4

abbrev pub decreases-second_at : goal.decreases-second_at
decreases-second_at l = 6 * l.room.levels + 3

abbrev pub decreases-delayed_at : goal.decreases-delayed_at
decreases-delayed_at l = 6 * l.room.levels + 3

abbrev pub decreases-operand_at : goal.decreases-operand_at
decreases-operand_at l = 6 * l.room.levels + 2

abbrev pub decreases-parens_at : goal.decreases-parens_at
decreases-parens_at l = 6 * l.room.levels + 1
