use Rattle.std.proofs.Common.{ℕ, List, [], ◌∷◌, All, length, map, sym, ◌∙◌, subst}
use Rattle.std.proofs.lemmas.List.{length-map}
use Rattle.std.proofs.lemmas.List.Elements.{All-head, All-tail}
use Rattle.ccsl_formula.specs.Formula.{Formula}
use Rattle.ccsl_formula.specs.Variables.{ReadsBelow}
use Rattle.ccsl_formula.specs.declared.scope.Scope.{Scope}
use Rattle.ccsl_formula.specs.Plain.{plain}
use Rattle.ccsl_solve.specs.Posed.{AllBelow}
use Rattle.ccsl_explain.specs.Explains.{Explains}
use Rattle.ccsl_top.proofs.Running.{explained-answers, explained-stops}
use Rattle.ccsl_top.proofs.explain.explain_formulas.Goals as goal

all-below : (n : ℕ) (fs : List Formula) → All (ReadsBelow n) fs → AllBelow n fs
all-below n [] h = tt
all-below n (f ∷ fs) h = (All-head (ReadsBelow n) f fs h, all-below n fs (All-tail (ReadsBelow n) f fs h))

pub explain-requires-clause-reads : goal.explain-requires-clause-reads
explain-requires-clause-reads g c =
    let fs = map plain c.args.formulas.now in
    subst (λ (s : Scope). AllBelow s.named fs) (sym c.scope.ensures.scope) (all-below (length c.args.system.now.names) fs c.requires.below)

pub answer_explained-requires-clause-explained : goal.answer_explained-requires-clause-explained
answer_explained-requires-clause-explained g c =
    let fs = map plain c.args.formulas.now in
    let is = subst (λ (s : Scope). Explains s fs c.in_ok-explained.explained) c.scope.ensures.scope c.in_ok-explained.ensures in
    (fs, length-map c.args.formulas.now plain ∙ c.requires.count, is)

pub returns-clause-answers : goal.returns-clause-answers
returns-clause-answers g c =
    let fs = map plain c.args.formulas.now in
    let is = subst (λ (s : Scope). Explains s fs c.in_ok-explained.explained) c.scope.ensures.scope c.in_ok-explained.ensures in
    explained-answers g.W.World.told c.args.system.now c.args.cert.now c.args.steps (g.W.World.state c.args.world.now) fs c.in_ok-explained.explained is
    (g.W.World.state c.answer_explained.new.world) c.answer_explained.result c.answer_explained.ensures.answers

pub returns-clause-stop : goal.returns-clause-stop
returns-clause-stop g c =
    let fs = map plain c.args.formulas.now in
    let is = subst (λ (s : Scope). Explains s fs c.in_ok-explained.explained) c.scope.ensures.scope c.in_ok-explained.ensures in
    explained-stops g.W.World.told c.args.system.now c.args.cert.now c.args.steps (g.W.World.state c.args.world.now) fs c.in_ok-explained.explained is
    (g.W.World.state c.answer_explained.new.world) c.answer_explained.result c.answer_explained.ensures.stop
