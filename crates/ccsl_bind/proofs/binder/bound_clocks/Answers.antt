use Rattle.std.proofs.Common.{◌+◌, subst, sym, ◌∙◌}
use Rattle.ccsl_bind.proofs.Walking.{Walked, walk-start, walk-none, walk-some, walk-unbound, walk-ambiguous, walk-end, not-true, not-false}
use Rattle.ccsl_bind.proofs.binder.bound_clocks.Goals as goal
use Rattle.ccsl_bind.proofs.binder.bound_clocks.Goals.{in-Some+else-not-candidates, in-None+else-clock-declared}

pub loop-i-init : goal.loop-i-init
loop-i-init c = walk-start c.args.declared c.args.found.now c.empty-bound.result c.empty-bound.ensures

pub returns-then-not-candidates : goal.returns-then-not-candidates
returns-then-not-candidates c =
    walk-ambiguous c.args.declared c.args.found.now c.loop-i.bound c.loop-i.i c.in-Some.candidates c.loop-i-test.true c.in-Some.is
    (not-true _ c.if-not-candidates.true) c.loop-i.invariant

pub returns-then-clock-declared : goal.returns-then-clock-declared
returns-then-clock-declared c =
    walk-unbound c.args.declared c.args.found.now c.loop-i.bound c.loop-i.i c.loop-i-test.true c.in-None.is c.if-clock-declared.true c.loop-i.invariant

pub loop-i-preserved : goal.loop-i-preserved
loop-i-preserved c =
    elim c.match-found-i.branch [
      | in-Some+else-not-candidates w ↦
          walk-some c.args.declared c.args.found.now c.loop-i.bound c.match-found-i.bound c.loop-i.i w.in-Some.candidates c.loop-i-test.true w.in-Some.is
          (not-false _ w.if-not-candidates.false) (w.bound-is ∙ w.insert.ensures) c.loop-i.invariant
      | in-None+else-clock-declared w ↦
          subst (λ xs. Walked c.args.declared c.args.found.now xs (c.loop-i.i + 1)) (sym w.bound-is)
          (walk-none c.args.declared c.args.found.now c.loop-i.bound c.loop-i.i c.loop-i-test.true w.in-None.is w.if-clock-declared.false
          c.loop-i.invariant)
    ]

pub returns : goal.returns
returns c = walk-end c.args.declared c.args.found.now c.loop-i.bound c.loop-i.i c.loop-i-test.false c.loop-i.invariant
