use Rattle.std.proofs.Common.{◌+◌, ◌<◌, ◌∷◌, length, sym, ◌∙◌, subst, arith}
use Rattle.ccsl_base.proofs.Sets.{first-ticks}
use Rattle.ccsl_relate.specs.declared.watched.Watched.TheVariants.{Nothing}
use Rattle.ccsl_relate.specs.Few.{HasRoom}
use Rattle.ccsl_relate.proofs.Ranges.{clocks-set}
use Rattle.ccsl_relate.proofs.Walking.{Walks, walk-inside, walk-fails, walk-more, walk-done}
use Rattle.ccsl_relate.proofs.touched.first_at.Goals as goal
use Rattle.ccsl_relate.proofs.touched.first_at.Goals.{In-Some}

-- the walk comes to the next place
walks : (c : In-Some) → Walks c.args.ticks.now c.args.step.now c.args.start c.args.touched.now (c.in-Some.place ∷ c.next.new.self) c.args.kept.now
    c.loop-place.kept
walks c =
    subst (λ rest. Walks c.args.ticks.now c.args.step.now c.args.start c.args.touched.now rest c.args.kept.now c.loop-place.kept) c.in-Some.ensures.steps
    c.loop-place.invariant.walk

inside : (c : In-Some) → c.args.start + c.in-Some.place < length c.args.kept.now
inside c = walk-inside c.requires.touched (walks c)

pub overflow_add-at : goal.overflow_add-at
overflow_add-at c = omega (arith, inside c, c.requires.few)

pub offset_bounds-kept-at : goal.offset_bounds-kept-at
offset_bounds-kept-at c = omega (arith, inside c, c.requires.few)

pub bounds-kept-at : goal.bounds-kept-at
bounds-kept-at c = omega (arith, inside c, c.loop-place.auto.kept)

pub fails-requires : goal.fails-requires
fails-requires c =
    let e = (goal.at.fails-requires c).In-Some in
    let at = c.args.start + c.in-Some.place in
    let w = walks e in
    subst HasRoom (sym (w.on.rest at Nothing (w.behind c.in-Some.place (first-ticks c.in-Some.place c.next.new.self))))
    (c.requires.room at Nothing (omega arith) (inside e))

pub returns-then-fails-clause-clocks : goal.returns-then-fails-clause-clocks
returns-then-fails-clause-clocks c =
    clocks-set c.args.step.now c.loop-place.kept (c.args.start + c.in-Some.place) Nothing c.fails.new.self c.fails.ensures.next ∙ c.loop-place.invariant.clocks

pub returns-then-fails-clause-fails : goal.returns-then-fails-clause-fails
returns-then-fails-clause-fails c =
    walk-fails c.requires.touched (walks (goal.at.returns-then-fails-clause-fails c).In-Some) (sym c.fails.ensures.fails ∙ c.if-fails.true)

pub loop-place-preserved : goal.loop-place-preserved
loop-place-preserved c = record {
  walk =
      walk-more c.requires.touched (walks (goal.at.loop-place-preserved c).In-Some) c.fails.new.self (sym c.fails.ensures.fails ∙ c.if-fails.false)
      c.fails.ensures.next;
  clocks = clocks-set c.args.step.now c.loop-place.kept (c.args.start + c.in-Some.place) Nothing c.fails.new.self c.fails.ensures.next
      ∙ c.loop-place.invariant.clocks;
}

pub returns-clause-none : goal.returns-clause-none
returns-clause-none c = walk-done c.requires.touched
    (subst (λ rest. Walks c.args.ticks.now c.args.step.now c.args.start c.args.touched.now rest c.args.kept.now c.loop-place.kept) c.in-None.ensures.steps.0
    c.loop-place.invariant.walk)
