use Rattle.std.proofs.Common.{ℕ, List, map, sym, subst}
use Rattle.std.specs.List.{All, AllZip, Contains}
use Rattle.ccsl_formula.specs.Plain.{plain}
use Rattle.ccsl_explain.specs.Asked.{HasStep}
use Rattle.ccsl_explain.specs.Explained.{IsExplained}
use Rattle.ccsl_explain.specs.LeastSteps.{IsLeastStep}
use Rattle.ccsl_explain.specs.Masked.{without}
use Rattle.ccsl_explain.proofs.Certificates.{certificate-blocks}
use Rattle.ccsl_explain.proofs.Explanations.{core-blocks, each-open, explained}
use Rattle.ccsl_explain.proofs.Masks.{asked-plain}
use Rattle.ccsl_explain.proofs.explanation.blocked.Goals as goal

pub core_of-requires-clause-used : goal.core_of-requires-clause-used
core_of-requires-clause-used c = c.in_ok-used.ensures.block c.args.scope.now (map plain c.args.formulas.now) c.requires.certificate

pub certificate-requires-clause-asked : goal.certificate-requires-clause-asked
certificate-requires-clause-asked c =
    asked-plain c.args.scope.now c.args.formulas.now c.core_of.new.formulas (Contains c.in_ok-core.core.items) c.in_ok-core.ensures.masked
    c.in_ok-core.ensures.length c.requires.asked

pub certificate-requires-clause-blocks : goal.certificate-requires-clause-blocks
certificate-requires-clause-blocks c =
    let fs = map plain c.args.formulas.now in
    core-blocks c.args.scope.now fs (map plain c.core_of.new.formulas) c.in_ok-core.core.items c.in_ok-core.ensures.masked
    (certificate-blocks c.args.scope.now fs c.args.lines.now c.requires.certificate) c.in_ok-core.ensures.core

pub least_steps-requires-clause-asked : goal.least_steps-requires-clause-asked
least_steps-requires-clause-asked c =
    asked-plain c.args.scope.now c.args.formulas.now c.core_of.new.formulas (Contains c.in_ok-core.core.items) c.in_ok-core.ensures.masked
    c.in_ok-core.ensures.length c.requires.asked

pub least_steps-requires-clause-open : goal.least_steps-requires-clause-open
least_steps-requires-clause-open c =
    let ms = map plain c.core_of.new.formulas in
    subst (λ (is : List ℕ). All (λ i. HasStep c.args.scope.now (without ms i)) is) (sym c.deref.ensures.value)
    (each-open c.args.scope.now (map plain c.args.formulas.now) ms c.in_ok-core.core.items c.in_ok-core.ensures.masked c.in_ok-core.ensures.core)

pub returns : goal.returns
returns c =
    let scope = c.args.scope.now in
    let fs = map plain c.args.formulas.now in
    let ms = map plain c.core_of.new.formulas in
    let core = c.in_ok-core.core.items in
    let lines = c.in_ok-lines.lines in
    let sets = c.in_ok-without.without.items in
    let least : AllZip (λ i s. IsLeastStep scope (without ms i) s) core sets =
    subst (λ (is : List ℕ). AllZip (λ i s. IsLeastStep scope (without ms i) s) is sets) c.deref.ensures.value c.in_ok-without.ensures in
    subst (λ (is : List ℕ). IsExplained scope fs is lines c.new-2.result) (sym c.new.ensures)
    (subst (λ (ss : List (List ℕ)). IsExplained scope fs core lines ss) (sym c.new-2.ensures)
    (explained scope fs ms core c.in_ok-core.ensures.masked lines sets (certificate-blocks scope fs c.args.lines.now c.requires.certificate)
    c.in_ok-core.ensures.core c.in_ok-lines.ensures least))
