use Rattle.std.proofs.Common.{sym, ◌∙◌, arith}
use Rattle.ccsl_relate.specs.declared.watched.Watched.TheVariants.{Nothing}
use Rattle.ccsl_relate.proofs.Ranges.{clocks-set, on-none, on-more, on-all, fails-here, stops-at}
use Rattle.ccsl_relate.proofs.watched.first_failing.Goals as goal

pub loop-i-preserved : goal.loop-i-preserved
loop-i-preserved c = record {
  on = on-more c.fails.new.self c.loop-i.invariant.on (omega arith) (omega arith) (sym c.fails.ensures.fails ∙ c.if-fails.false) c.fails.ensures.next;
  clocks = clocks-set c.args.step.now c.loop-i.kept c.loop-i.i Nothing c.fails.new.self c.fails.ensures.next ∙ c.loop-i.invariant.clocks;
}

pub returns-then-fails : goal.returns-then-fails
returns-then-fails c =
    stops-at on-none (fails-here c.loop-i.invariant.on (omega arith) (omega arith) (sym c.fails.ensures.fails ∙ c.if-fails.true))
    (clocks-set c.args.step.now c.loop-i.kept c.loop-i.i Nothing c.fails.new.self c.fails.ensures.next ∙ c.loop-i.invariant.clocks)

pub returns : goal.returns
returns c = on-all c.loop-i.invariant.on (omega arith) c.loop-i.invariant.clocks
