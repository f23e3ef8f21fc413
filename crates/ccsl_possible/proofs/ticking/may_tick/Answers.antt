use Rattle.std.proofs.Common.{◌+◌, map, ◌∙◌, sym, subst, rules}
use Rattle.std.proofs.lemmas.Bool.{both_ways}
use Rattle.ccsl_formula.specs.Plain.{plain}
use Rattle.ccsl_possible.specs.Ticking.{AreThoseBelow}
use Rattle.ccsl_possible.proofs.Solving.{those-with, those-without}
use Rattle.ccsl_possible.proofs.ticking.may_tick.Goals.{then-has, else-has}
use Rattle.ccsl_possible.proofs.ticking.may_tick.Goals as goal

pub loop-clock-preserved : goal.loop-clock-preserved
loop-clock-preserved c =
    let scope = c.args.scope.now in
    let fs = map plain c.args.formulas.now in
    let n = c.loop-clock.clock in
    let old = c.loop-clock.clocks in
    let more = c.in_ok-add_set_with.ensures in record {
      found = more.found;
      clocks = elim c.if-has.branch [
        | then-has w ↦
            subst (AreThoseBelow scope fs (n + 1)) (sym (w.clocks-is ∙ w.insert.ensures))
            (those-with scope fs n old c.loop-clock.invariant.clocks (more.found n (sym c.has.ensures.member ∙ w.if-has.true)))
        | else-has w ↦
            subst (AreThoseBelow scope fs (n + 1)) (sym w.clocks-is)
            (those-without scope fs n old c.loop-clock.invariant.clocks (λ m. both_ways c.has.result w.if-has.false (c.has.ensures.member ∙ more.clock m)))
      ];
    }

pub returns-clause-those : goal.returns-clause-those
returns-clause-those c = search rules

pub loop-clock-init : goal.loop-clock-init
loop-clock-init c = search rules
