use Rattle.std.proofs.Common.{rules}
use Rattle.ccsl_event_file.proofs.token.is_word_byte.Goals as goal

pub returns-else-is_inner : goal.returns-else-is_inner
returns-else-is_inner c = search rules
