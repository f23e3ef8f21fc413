use Rattle.std.proofs.Common.{◌≡◌, length, map}
use Rattle.ccsl_formula.specs.Plain.{plain}
use Rattle.ccsl_explain.specs.Core.{Block}
use Rattle.ccsl_explain.specs.Deletion.{IsLeft, IsCoreBelow}
use Rattle.ccsl_explain.specs.Masked.{IsMasked}
use Rattle.ccsl_explain.specs.Used.{IsUsed}
use Rattle.ccsl_explain.proofs.deletion.core_of.Given as goal

abbrev pub invariant-loop-item : goal.invariant-loop-item
invariant-loop-item l = record {
  core : IsCoreBelow l.scope (map plain l.fn.formulas) l.item l.core.items;
  masked : IsMasked (map plain l.fn.formulas) (IsLeft l.core.items l.item) (map plain l.formulas);
  marks : length l.used.items ≡ length l.formulas;
  used : Block l.scope (map plain l.formulas) (IsUsed l.used.items);
}
