use Rattle.std.proofs.Common.{◌≡◌, ◌∙◌, ◌+◌, ◌++◌, ◌∷◌, [], ℕ, List, Bool, true, false, Vec, Global, length, map, sym, ap, subst, arith}
use Rattle.std.proofs.lemmas.List.{length-map}
use Rattle.ccsl_formula.specs.Plain.{plain}
use Rattle.ccsl_explain.specs.Deletion.{Stays, IsLeft, IsCoreBelow}
use Rattle.ccsl_explain.specs.Masked.{IsMasked}
use Rattle.ccsl_explain.proofs.Deletions.{core-all, left-all, next-stays, next-goes}
use Rattle.ccsl_explain.proofs.Masks.{asked-plain}
use Rattle.ccsl_explain.proofs.deletion.core_of.Goals as goal
use Rattle.ccsl_explain.proofs.deletion.core_of.Goals.{then-branch+in_ok-push, else-branch}

pub stays-requires-clause-asked : goal.stays-requires-clause-asked
stays-requires-clause-asked c =
    asked-plain c.args.scope.now c.args.formulas.now c.loop-item.formulas (IsLeft c.loop-item.core.items c.loop-item.item) c.loop-item.invariant.masked
    c.loop-item.auto.formulas
    c.requires.asked

pub loop-item-preserved : goal.loop-item-preserved
loop-item-preserved c =
    let scope = c.args.scope.now in
    let fs = map plain c.args.formulas.now in
    let ms = map plain c.loop-item.formulas in
    let next = map plain c.stays.new.formulas in
    let core = c.loop-item.core.items in
    let n = c.loop-item.item in
    let done : IsCoreBelow scope fs (n + 1) c.if-branch.core.items × IsMasked fs (IsLeft c.if-branch.core.items (n + 1)) next =
    elim c.if-branch.branch [
      | then-branch+in_ok-push w ↦
          let is : c.if-branch.core.items ≡ core ++ n ∷ [] = ap (λ (v : Vec ℕ Global). v.items) w.core-is ∙ w.in_ok-push.ensures.items in
          let stays : Stays scope ms next n true = subst (λ (b : Bool). Stays scope ms next n b) w.if-branch.true c.in_ok-stays.ensures.stays in
          subst (λ (xs : List ℕ). IsCoreBelow scope fs (n + 1) xs × IsMasked fs (IsLeft xs (n + 1)) next) (sym is)
          (next-stays scope fs ms core n c.loop-item.invariant.core c.loop-item.invariant.masked next stays)
      | else-branch w ↦
          let is : c.if-branch.core.items ≡ core = ap (λ (v : Vec ℕ Global). v.items) w.core-is in
          let goes : Stays scope ms next n false = subst (λ (b : Bool). Stays scope ms next n b) w.if-branch.false c.in_ok-stays.ensures.stays in
          subst (λ (xs : List ℕ). IsCoreBelow scope fs (n + 1) xs × IsMasked fs (IsLeft xs (n + 1)) next) (sym is)
          (next-goes scope fs ms core n c.loop-item.invariant.core c.loop-item.invariant.masked next c.stays.new.used.items goes c.in_ok-stays.ensures.used)
    ] in
    record { core = done.0; masked = done.1; marks = c.in_ok-stays.ensures.marks; used = c.in_ok-stays.ensures.used }

pub returns-clause-core : goal.returns-clause-core
returns-clause-core c =
    let fs = map plain c.args.formulas.now in
    let whole : c.loop-item.item ≡ length fs = omega (arith, length-map c.args.formulas.now plain) in
    core-all c.args.scope.now fs c.loop-item.item c.loop-item.core.items whole c.loop-item.invariant.core

pub returns-clause-masked : goal.returns-clause-masked
returns-clause-masked c =
    let fs = map plain c.args.formulas.now in
    let whole : c.loop-item.item ≡ length fs = omega (arith, length-map c.args.formulas.now plain) in
    left-all fs (map plain c.loop-item.formulas) c.loop-item.item c.loop-item.core.items whole c.loop-item.invariant.core.items c.loop-item.invariant.masked
