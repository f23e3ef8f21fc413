use Rattle.std.proofs.Common.{◌≡◌, map, take}
use Rattle.ccsl_formula.specs.Plain.{plain}
use Rattle.ccsl_explain.proofs.copied.copies.Given as goal

abbrev pub invariant-loop-formula : goal.invariant-loop-formula
invariant-loop-formula l = map plain l.copies.items ≡ map plain (take l.formula-index l.formulas)
