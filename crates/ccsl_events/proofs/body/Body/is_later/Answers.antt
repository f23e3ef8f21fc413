use Rattle.std.proofs.Common.{rules}
use Rattle.ccsl_events.proofs.body.Body.is_later.Goals as goal

pub returns-then-time-present-clause-back : goal.returns-then-time-present-clause-back
returns-then-time-present-clause-back c = search rules
