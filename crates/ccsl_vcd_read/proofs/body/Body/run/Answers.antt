use Rattle.std.proofs.Common.{◌∙◌, ◌<◌, length, arith}
use Rattle.std.proofs.lemmas.Grind.{common_steps}
use Rattle.ccsl_vcd_read.proofs.Run.{runs-before-none, runs-before-more, runs-before-end, fills-last, runs-nothing}
use Rattle.ccsl_vcd_read.proofs.body.Body.run.Goals as goal
use Rattle.ccsl_base.proofs.Cases.{rest-is}

pub loop-out-init : goal.loop-out-init
loop-out-init c = record {
  so_far = runs-before-none c.args.self.now c.args.at c.args.piece.now c.args.out.now.rows;
  room = Rattle.std.proofs.Common.refl;
  full = λ e. absurd (omega (arith, e, c.requires.room));
}

pub loop-out-preserved : goal.loop-out-preserved
loop-out-preserved c = record {
  so_far = runs-before-more c.args.self.now c.loop-out.self c.step-taken.new.self c.args.at c.step-taken.result c.args.piece.now c.loop-out.rest.now _
      c.args.out.now.rows c.loop-out.out.rows c.step-taken.new.out.rows
      c.loop-out.invariant.so_far c.step-taken.ensures.within c.step-taken.ensures.runs (rest-is c.step-taken.result c.loop-out.rest.now);
  room = c.step-taken.ensures.room ∙ c.loop-out.invariant.room;
  full = λ e.
      fills-last c.args.self.now c.loop-out.self c.args.at c.step-taken.result c.args.piece.now c.loop-out.rest.now _ c.args.out.now.rows c.loop-out.out.rows
      c.args.out.now.room c.loop-out.invariant.so_far
      c.step-taken.ensures.within (grind (arith, common_steps, c.if-taken-eq0.false))
      (grind (arith, common_steps, c.is_full.ensures, c.if-not-is_full.true, c.loop-out.invariant.room))
      (c.step-taken.ensures.full e) (rest-is c.step-taken.result c.loop-out.rest.now);
}

pub returns-then-taken-eq0-clause-runs : goal.returns-then-taken-eq0-clause-runs
returns-then-taken-eq0-clause-runs c =
    runs-before-end c.args.self.now c.loop-out.self c.step-taken.new.self c.args.at c.step-taken.result c.args.piece.now c.loop-out.rest.now c.args.out.now.rows
    c.loop-out.out.rows c.step-taken.new.out.rows
    c.loop-out.invariant.so_far c.step-taken.ensures.runs c.if-taken-eq0.true

pub returns-then-taken-eq0-clause-full : goal.returns-then-taken-eq0-clause-full
returns-then-taken-eq0-clause-full c = λ e.
    let same = runs-nothing _ _ _ c.step-taken.result c.loop-out.rest.now _ _ c.step-taken.ensures.runs c.if-taken-eq0.true in
    let left : length c.loop-out.out.rows < c.loop-out.out.room = grind (arith, common_steps, c.is_full.ensures, c.if-not-is_full.true) in
    absurd (omega (arith, e, same, left, c.step-taken.ensures.room))

pub returns-clause-full : goal.returns-clause-full
returns-clause-full c = c.loop-out.invariant.full
