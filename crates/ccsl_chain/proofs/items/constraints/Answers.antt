-- One call more.
use Rattle.std.proofs.Common.{rules}
use Rattle.ccsl_chain.specs.Chain.{alternation}
use Rattle.ccsl_chain.proofs.Pieces.{some_more}
use Rattle.ccsl_chain.proofs.items.constraints.Goals as goal

pub loop-i-preserved : goal.loop-i-preserved
loop-i-preserved c =
    some_more (alternation c.args.clocks) c.loop-i.out.items c.add_alternation.new.out.items c.loop-i.i c.loop-i.invariant c.in_ok-add_alternation.ensures

pub returns : goal.returns
returns c = search rules
