use Rattle.std.proofs.Common.{rules}
use Rattle.ccsl_session.proofs.answers.Session.say_count.Goals as goal

pub returns-clause-text : goal.returns-clause-text
returns-clause-text c = search rules
