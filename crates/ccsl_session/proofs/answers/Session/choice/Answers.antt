use Rattle.std.proofs.Common.{◌≡◌, ◌*◌, ◌∙◌, List, map, length, sym, ap, subst}
use Rattle.ccsl_formula.specs.declared.formula.Formula.{Formula as Boxed}
use Rattle.ccsl_formula.specs.declared.scope.Scope.{Scope}
use Rattle.ccsl_formula.specs.Plain.{plain}
use Rattle.ccsl_kernel.specs.Runs.{completed}
use Rattle.ccsl_solve.specs.Posed.{AllBelow}
use Rattle.ccsl_items.specs.Formulas.{item_formulas, scope_of}
use Rattle.ccsl_simulate.specs.Simulation.{words_of_step}
use Rattle.ccsl_solve.proofs.PosedLaws.{all-below}
use Rattle.ccsl_simulate.proofs.Asking.{words-length}
use Rattle.ccsl_session.proofs.Choices.{chooses-at, step-words}
use Rattle.ccsl_session.proofs.answers.Session.choice.Goals as goal

pub choose-requires-clause-reads : goal.choose-requires-clause-reads
choose-requires-clause-reads c =
    let names = c.args.self.now.stack.system.now.names in
    subst (λ (s : Scope). AllBelow s.named (map plain c.deref.result.now)) (sym c.scope-scope.ensures.scope)
    (subst (λ (fs : List Boxed). AllBelow (length names) (map plain fs)) (sym c.deref.ensures.value)
    (all-below (length names) (map plain c.put_formulas.new.formulas.items) c.in_ok-put_formulas.ensures.below))

pub choose-requires-clause-words : goal.choose-requires-clause-words
choose-requires-clause-words c =
    let seed = c.args.self.now.seed in
    let taken = c.len.result * c.from.result in
    ap length (c.deref-2.ensures.value ∙ c.in_ok-words.ensures.words seed taken c.at-draw.ensures) ∙ words-length seed taken c.scope-scope.result.declared

pub returns-clause-choice : goal.returns-clause-choice
returns-clause-choice c =
    let session = c.args.self.now in
    let K = session.stack.system.now in
    let R = session.stack.sets.items in
    let T = completed K R in
    let taken = c.len.result * c.from.result in
    let declared = ap (λ (s : Scope). s.declared) c.scope-scope.ensures.scope in
    let formulas : map plain c.deref.result.now ≡ item_formulas K T =
    ap (map plain) c.deref.ensures.value ∙ c.in_ok-put_formulas.ensures.formulas T c.requires.states.stands in
    let words : c.deref-2.result.now ≡ words_of_step K session.seed (length T) =
    c.deref-2.ensures.value
    ∙ c.in_ok-words.ensures.words session.seed taken c.at-draw.ensures
    ∙ step-words K R session.seed c.len.result c.scope-scope.result.declared taken c.len.ensures declared (ap (λ n. c.len.result * n) c.from.ensures) in
    chooses-at session.policy _ (scope_of K) _ (item_formulas K T) _ (words_of_step K session.seed (length T)) c.choose.result c.scope-scope.ensures.scope
    formulas words c.choose.ensures
