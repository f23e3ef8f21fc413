use Rattle.std.proofs.Common.{rules}
use Rattle.ccsl_judge.proofs.share.SharePiece.work.Goals as goal

pub returns : goal.returns
returns c = search rules
