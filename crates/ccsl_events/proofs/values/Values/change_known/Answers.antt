use Rattle.std.proofs.Common.{map, subst}
use Rattle.ccsl_triggers.specs.Held.{held}
use Rattle.ccsl_events.specs.Keeping.{Knows}
use Rattle.ccsl_events.proofs.values.Values.change_known.Goals as goal

pub returns-in_ok-hear-in-Used-clause-keeps : goal.returns-in_ok-hear-in-Used-clause-keeps
returns-in_ok-hear-in-Used-clause-keeps c plan views code k knows known =
    let hs = map held c.args.self.now.signals.items in
    rw c.if-is_kept.true (c.in_ok-hear-in-Used.ensures plan views code k (subst (Knows plan hs code) c.in-Used.is knows))
