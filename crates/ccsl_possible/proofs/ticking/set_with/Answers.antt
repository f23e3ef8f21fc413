use Rattle.std.proofs.Common.{map, sym, subst}
use Rattle.ccsl_formula.specs.Known.{known}
use Rattle.ccsl_formula.specs.Plain.{plain}
use Rattle.ccsl_solve.specs.declared.solver.Answer.{Answer}
use Rattle.ccsl_solve.specs.Under.{IsInside}
use Rattle.ccsl_solve.specs.Answers.{Answers}
use Rattle.ccsl_possible.proofs.Solving.{fixed-inside, step-with, refuted-none}
use Rattle.ccsl_possible.proofs.ticking.set_with.Goals as goal

pub solve-requires-clause-fixed : goal.solve-requires-clause-fixed
solve-requires-clause-fixed c =
    let named = c.args.scope.now.named in
    subst (IsInside named) (sym c.fixed_at.ensures) (fixed-inside named c.args.clock c.requires.clock)

pub returns-in-Step : goal.returns-in-Step
returns-in-Step c =
    let scope = c.args.scope.now in
    let fs = map plain c.args.formulas.now in
    let part = known c.fixed_at.result in
    let found = subst (λ (a : Answer). Answers scope fs part a) c.in-Step.is c.in_ok-set.ensures in
    step-with scope fs c.args.clock part c.in-Step.set c.fixed_at.ensures found c.ascends.ensures.ascending

pub returns-in-Refuted : goal.returns-in-Refuted
returns-in-Refuted c =
    let scope = c.args.scope.now in
    let fs = map plain c.args.formulas.now in
    let part = known c.fixed_at.result in
    let refuted = subst (λ (a : Answer). Answers scope fs part a) c.in-Refuted.is c.in_ok-set.ensures in
    refuted-none scope fs c.args.clock part c.in-Refuted._lines c.fixed_at.ensures refuted
