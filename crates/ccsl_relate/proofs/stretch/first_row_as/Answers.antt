use Rattle.std.proofs.lemmas.Grind.{common_steps}
use Rattle.std.proofs.Common.{◌≡◌, take, get_or, refl, sym, ap, ◌∙◌, arith, length-take-le}
use Rattle.ccsl_relate.specs.declared.watched.Watched.TheVariants.{Relation}
use Rattle.ccsl_relate.specs.Watching.{next_in}
use Rattle.ccsl_relate.specs.Reading.{clocks_of}
use Rattle.ccsl_relate.proofs.ByRows.{after-more, obeys-more, relation-here, clocks-after, room-after}
use Rattle.ccsl_relate.proofs.stretch.first_row_as.Goals as goal

pub fails-requires : goal.fails-requires
fails-requires c = grind (arith, common_steps, room-after, length-take-le)

pub loop-i-preserved : goal.loop-i-preserved
loop-i-preserved c =
    let rows = c.args.steps.now in
    let old = Relation c.args.related.now in
    let gone = c.loop-i.invariant.gone in
    let d = c.index-steps-i.result in
    record {
      gone = ap Relation c.fails.ensures.next ∙ ap (next_in (get_or rows c.loop-i.i d).ticks) gone ∙ sym (after-more rows old c.loop-i.i d (omega arith));
      obeys = obeys-more rows rows old c.loop-i.i c.loop-i.invariant.obeys
          (relation-here rows c.args.related.now c.loop-i.i d (omega arith) gone c.fails.ensures.fails ∙ c.if-fails.false);
    }

pub returns-then-fails : goal.returns-then-fails
returns-then-fails c = record {
  clocks = refl;
  fails = record {
    inside = omega arith;
    fails = relation-here c.args.steps.now c.args.related.now c.loop-i.i c.index-steps-i.result (omega arith) c.loop-i.invariant.gone c.fails.ensures.fails
        ∙ c.if-fails.true;
    before = c.loop-i.invariant.obeys;
  };
  none = tt;
  next = tt;
}

pub returns : goal.returns
returns c =
    let at : c.args.end ≡ c.loop-i.i = omega arith in
    rw at (record {
      clocks = ap clocks_of c.loop-i.invariant.gone ∙ clocks-after (take c.loop-i.i c.args.steps.now) (Relation c.args.related.now);
      fails = tt;
      none = c.loop-i.invariant.obeys;
      next = c.loop-i.invariant.gone;
    })
