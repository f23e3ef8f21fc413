-- Two constraints, one behind the other.
use Rattle.std.proofs.Common.{◌+◌}
use Rattle.ccsl_chain.specs.Chain.{precedes}
use Rattle.ccsl_chain.proofs.Pieces.{two_more}
use Rattle.ccsl_chain.proofs.items.add_alternation.Goals as goal

pub returns : goal.returns
returns c =
    two_more c.args.out.now.items c.push.new.self.items c.push-2.new.self.items c.in_ok-precedes.field-0 c.in_ok-precedes-2.field-0
    (precedes c.args.i c.args.i (c.args.i + 1)) (precedes c.args.i (c.args.i + 1) (c.args.clocks + c.args.i))
    c.in_ok-push.ensures.items c.in_ok-precedes.ensures c.in_ok-push-2.ensures.items c.in_ok-precedes-2.ensures
