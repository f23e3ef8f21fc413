-- The definition of a recorded clock fails at a row that differs from its step there.
use Rattle.std.proofs.Common.{take, refl, ◌∙◌, arith}
use Rattle.ccsl_relate.specs.declared.watched.Watched.TheVariants.{Definition}
use Rattle.ccsl_relate.proofs.ByRows.{obeys-more, definition-here, definition-stays}
use Rattle.ccsl_relate.proofs.stretch.first_difference.Goals as goal

pub returns-then-has : goal.returns-then-has
returns-then-has c = record {
  clocks = refl;
  fails = record {
    inside = omega arith;
    fails = definition-here c.args.rows.now c.args.steps.now c.args.clock c.loop-i.i c.index-rows-i.result c.index-steps-i.result (omega arith) (omega arith)
        c.has.ensures.member c.has-in-loop-i.ensures.member ∙ c.if-has.true;
    before = c.loop-i.invariant;
  };
  none = tt;
  next = tt;
}

pub loop-i-preserved : goal.loop-i-preserved
loop-i-preserved c =
    obeys-more c.args.rows.now c.args.steps.now (Definition c.args.clock) c.loop-i.i c.loop-i.invariant
    (definition-here c.args.rows.now c.args.steps.now c.args.clock c.loop-i.i c.index-rows-i.result c.index-steps-i.result (omega arith) (omega arith)
    c.has.ensures.member c.has-in-loop-i.ensures.member ∙ c.if-has.false)

pub returns : goal.returns
returns c = record {
  clocks = refl;
  fails = tt;
  none = λ n l. c.loop-i.invariant n (omega (arith, l));
  next = definition-stays c.args.clock (take c.args.end c.args.steps.now);
}
