use Rattle.ccsl_library.proofs.MembersTick.{members-tick}
use Rattle.ccsl_library.proofs.laws.members_tick.Goals as goal

pub returns : goal.returns
returns c = members-tick
