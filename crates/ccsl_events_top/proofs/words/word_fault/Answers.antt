use Rattle.std.proofs.Common.{rules}
use Rattle.ccsl_events_top.proofs.words.word_fault.Goals as goal

pub returns-then-is_some : goal.returns-then-is_some
returns-then-is_some c = search rules
