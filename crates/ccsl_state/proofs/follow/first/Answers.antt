-- The members are in ascending order.
use Rattle.ccsl_state.proofs.Visiting.{first_is}
use Rattle.ccsl_state.proofs.follow.first.Goals as goal

pub returns-clause-least : goal.returns-clause-least
returns-clause-least c =
    first_is c.args.set.now c.members.result c.next.new.self c.next.result c.members.ensures.members c.members.ensures.ascending c.next.ensures.steps
