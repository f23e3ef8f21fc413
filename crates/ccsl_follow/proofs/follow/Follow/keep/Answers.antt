use Rattle.std.proofs.Common.{rules}
use Rattle.ccsl_follow.proofs.follow.Follow.keep.Goals as goal

pub returns-else-self-clause-kept : goal.returns-else-self-clause-kept
returns-else-self-clause-kept c = search rules
