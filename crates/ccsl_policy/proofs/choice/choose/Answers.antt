use Rattle.std.proofs.Common.{◌≡◌, ◌≤◌, ◌∙◌, ℕ, Bool, List, map, length, ap, sym, subst, arith}
use Rattle.ccsl_formula.specs.Known.{known}
use Rattle.ccsl_formula.specs.Plain.{plain}
use Rattle.ccsl_refute.specs.declared.line.Lit.{Lit}
use Rattle.ccsl_refute.specs.Below.{AreBelow}
use Rattle.ccsl_solve.specs.declared.solver.Answer.{Answer}
use Rattle.ccsl_solve.specs.Answers.{AnswersBest}
use Rattle.ccsl_policy.specs.Ranks.{wish}
use Rattle.ccsl_policy.proofs.Ranking.{wishes-below, chosen}
use Rattle.ccsl_policy.proofs.choice.choose.Goals as goal

pub solve_by-requires-clause-wishes : goal.solve_by-requires-clause-wishes
solve_by-requires-clause-wishes c =
    let n = c.args.scope.now.named in
    let ranks = c.in_ok-ranked.ranked.items in
    let few : length c.args.words.now ≤ n = omega (arith, c.requires.words, c.requires.declared) in
    let is : c.deref-2.result.now ≡ map (wish c.args.policy) ranks =
    c.deref-2.ensures.value ∙ c.in_ok-wishes.ensures ∙ ap (map (wish c.args.policy)) c.deref.ensures.value in
    subst (λ (ls : List Lit). AreBelow n ls) (sym is) (wishes-below n c.args.policy c.args.words.now ranks few c.in_ok-ranked.ensures.ranks)

pub returns-in-Step : goal.returns-in-Step
returns-in-Step c =
    let scope = c.args.scope.now in
    let fs = map plain c.args.formulas.now in
    let ranks = c.in_ok-ranked.ranked.items in
    let is : c.deref-2.result.now ≡ map (wish c.args.policy) ranks =
    c.deref-2.ensures.value ∙ c.in_ok-wishes.ensures ∙ ap (map (wish c.args.policy)) c.deref.ensures.value in
    chosen scope fs c.args.policy c.args.words.now ranks c.deref-2.result.now (known c.empty.result) c.in-Step.set c.requires.words c.in_ok-ranked.ensures is
    (λ x. ap (λ (ps : List (ℕ × Bool)). known ps x) c.empty.ensures)
    (subst (λ (a : Answer). AnswersBest scope fs c.deref-2.result.now (known c.empty.result) a) c.in-Step.is c.in_ok-set.ensures)
