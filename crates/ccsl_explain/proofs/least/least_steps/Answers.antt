use Rattle.std.proofs.Common.{◌∙◌, ◌++◌, ◌∷◌, [], ℕ, List, map, take, get_or, sym, subst}
use Rattle.std.specs.List.{AllZip}
use Rattle.std.proofs.lemmas.List.{take_more}
use Rattle.ccsl_formula.specs.Plain.{plain}
use Rattle.ccsl_formula.specs.declared.formula.Formula.{Formula as Boxed}
use Rattle.ccsl_explain.specs.LeastSteps.{IsLeastStep}
use Rattle.ccsl_explain.specs.Masked.{without}
use Rattle.ccsl_explain.proofs.LeastSets.{zip-push}
use Rattle.ccsl_explain.proofs.least.least_steps.Goals as goal

pub loop-item-preserved : goal.loop-item-preserved
loop-item-preserved c =
    let items = c.args.items.now in
    let i = c.loop-item.item-index in
    let x = get_or items i 0 in
    let set = c.in_ok-least_without.field-0 in
    let R = λ (j : ℕ) (s : List ℕ). IsLeastStep c.args.scope.now (without (map plain c.args.formulas.now) j) s in
    let least : R x set = subst (λ (fs : List Boxed). IsLeastStep c.args.scope.now (without (map plain fs) x) set) c.loop-item.invariant.0
    c.in_ok-least_without.ensures.least in (
      c.in_ok-least_without.ensures.same ∙ c.loop-item.invariant.0,
      subst (λ (xs : List ℕ). AllZip R xs c.push.new.self.items) (sym (take_more items i 0 c.loop-item-test.true))
          (subst (λ (sets : List (List ℕ)). AllZip R (take i items ++ x ∷ []) sets) (sym {A = List (List ℕ)} c.in_ok-push.ensures.items)
          (zip-push R (take i items) c.loop-item.sets.items x set c.loop-item.invariant.1 least)),
    )
