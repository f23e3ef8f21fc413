use Rattle.std.proofs.Common.{rules}
use Rattle.ccsl_print.proofs.expression.+expression.Goals as goal

pub put_operand-returns-else-stands_in_parens : goal.put_operand-returns-else-stands_in_parens
put_operand-returns-else-stands_in_parens t c = search rules
