use Rattle.std.proofs.Common.{◌≡◌, map, take}
use Rattle.std.specs.List.{AllZip}
use Rattle.ccsl_formula.specs.Plain.{plain}
use Rattle.ccsl_explain.specs.LeastSteps.{IsLeastStep}
use Rattle.ccsl_explain.specs.Masked.{without}
use Rattle.ccsl_explain.proofs.least.least_steps.Given as goal

abbrev pub invariant-loop-item : goal.invariant-loop-item
invariant-loop-item l =
    (l.formulas ≡ l.fn.formulas) ×
    AllZip (λ i s. IsLeastStep l.scope (without (map plain l.fn.formulas) i) s) (take l.item-index l.items) l.sets.items
