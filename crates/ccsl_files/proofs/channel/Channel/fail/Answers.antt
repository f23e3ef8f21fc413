use Rattle.std.proofs.Common.{rules}
use Rattle.ccsl_files.proofs.channel.Channel.fail.Goals as goal

pub returns-clause-after : goal.returns-clause-after
returns-clause-after g c = search rules

pub returns-clause-rose : goal.returns-clause-rose
returns-clause-rose g c = search rules
