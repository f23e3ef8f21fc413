use Rattle.std.proofs.Common.{rules}
use Rattle.ccsl_events_top.proofs.words.meaning.Goals as goal

pub returns-clause-meant : goal.returns-clause-meant
returns-clause-meant c = search rules
