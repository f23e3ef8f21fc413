use Rattle.std.proofs.Common.{ℕ, Bool, List, map, sym, ap, subst, arith}
use Rattle.ccsl_formula.specs.Known.{known}
use Rattle.ccsl_formula.specs.Plain.{plain}
use Rattle.ccsl_refute.specs.Below.{AreBelow}
use Rattle.ccsl_refute.specs.declared.line.Lit.{Lit}
use Rattle.ccsl_solve.specs.declared.solver.Answer.{Answer}
use Rattle.ccsl_solve.specs.Answers.{AnswersBest}
use Rattle.ccsl_explain.proofs.LeastSets.{negatives-below, best-least}
use Rattle.ccsl_explain.proofs.least.least_step.Goals as goal

pub solve_by-requires-clause-wishes : goal.solve_by-requires-clause-wishes
solve_by-requires-clause-wishes c =
    let n = c.args.scope.now.named in
    subst (λ (ls : List Lit). AreBelow n ls) (sym c.requires.wishes) (negatives-below n n 0 (omega arith))

pub returns : goal.returns
returns c =
    let scope = c.args.scope.now in
    let fs = map plain c.args.formulas.now in
    best-least scope fs c.args.wishes.now (known c.empty.result) c.in-Step.set c.requires.wishes
    (λ x. ap (λ (ps : List (ℕ × Bool)). known ps x) c.empty.ensures) c.ascends.ensures.ascending
    (subst (λ (a : Answer). AnswersBest scope fs c.args.wishes.now (known c.empty.result) a) c.in-Step.is c.in_ok-set.ensures)
