use Rattle.std.proofs.Common.{◌∙◌, List, map, length, sym, ap, subst, rules}
use Rattle.ccsl_formula.specs.declared.formula.Formula.{Formula as Boxed}
use Rattle.ccsl_formula.specs.declared.scope.Scope.{Scope}
use Rattle.ccsl_formula.specs.Plain.{plain}
use Rattle.ccsl_solve.specs.Posed.{AllBelow}
use Rattle.ccsl_solve.proofs.PosedLaws.{all-below}
use Rattle.ccsl_simulate.proofs.Asking.{words-length}
use Rattle.ccsl_simulate.proofs.simulator.Simulator.choice.Goals as goal

pub choose-requires-clause-reads : goal.choose-requires-clause-reads
choose-requires-clause-reads c =
    subst (λ (s : Scope). AllBelow s.named (map plain c.deref.result.now)) (sym c.scope-scope.ensures.scope)
    (subst (λ (fs : List Boxed). AllBelow (length c.args.self.now.system.now.names) (map plain fs)) (sym c.deref.ensures.value)
    (all-below (length c.args.self.now.system.now.names) (map plain c.put_formulas.new.formulas.items) c.in_ok-put_formulas.ensures.below))

pub choose-requires-clause-words : goal.choose-requires-clause-words
choose-requires-clause-words c =
    let d = c.requires.draw in
    ap length (c.deref-2.ensures.value ∙ c.in_ok-words.ensures.words d.0 d.1 d.2) ∙ words-length d.0 d.1 c.scope-scope.result.declared

pub returns-clause-choice : goal.returns-clause-choice
returns-clause-choice c = search rules

pub returns-clause-draw : goal.returns-clause-draw
returns-clause-draw c = search rules
