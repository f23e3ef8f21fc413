use Rattle.std.proofs.Common.{rules}
use Rattle.ccsl_event_file.proofs.value.hex_digit.Goals as goal

pub overflow_sub-result-then-b-le102 : goal.overflow_sub-result-then-b-le102
overflow_sub-result-then-b-le102 c = search rules

pub returns-then-b-le102 : goal.returns-then-b-le102
returns-then-b-le102 c = search rules
