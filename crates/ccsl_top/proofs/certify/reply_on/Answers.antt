use Rattle.std.proofs.Common.{rules}
use Rattle.ccsl_top.proofs.certify.reply_on.Goals as goal

pub returns : goal.returns
returns c = search rules
