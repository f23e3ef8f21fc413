use Rattle.std.proofs.Common.{rules}
use Rattle.ccsl_base.proofs.numeral.with_digit.Goals as goal

pub returns-else-more-most : goal.returns-else-more-most
returns-else-more-most c = search rules
