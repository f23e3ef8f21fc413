use Rattle.std.proofs.Common.{rules}
use Rattle.ccsl_event_file.proofs.value.put_bit.Goals as goal

pub returns-in_ok-push : goal.returns-in_ok-push
returns-in_ok-push c = search rules

pub returns-in_ok-push-2 : goal.returns-in_ok-push-2
returns-in_ok-push-2 c = search rules

pub returns-else-not-is_empty : goal.returns-else-not-is_empty
returns-else-not-is_empty c = search rules
