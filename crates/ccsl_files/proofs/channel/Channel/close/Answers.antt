use Rattle.std.proofs.Common.{rules}
use Rattle.ccsl_files.proofs.channel.Channel.close.Goals as goal

pub returns : goal.returns
returns g c = search rules
