use Rattle.std.proofs.Common.{rules}
use Rattle.ccsl_follow.proofs.follow.Follow.is_far.Goals as goal

pub returns-then-self : goal.returns-then-self
returns-then-self c = search rules
