use Rattle.std.proofs.Common.{rules}
use Rattle.ccsl_files.proofs.channel.Channel.open_out.Goals as goal

pub returns : goal.returns
returns g c = search rules
