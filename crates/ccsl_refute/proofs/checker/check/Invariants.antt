use Rattle.std.proofs.Common.{◌≡◌, ◌≤◌, length, drop, take, map, ◌-◌}
use Rattle.ccsl_base.specs.declared.limits.TheConstants.{MAX_CLOCKS}
use Rattle.ccsl_formula.specs.Plain.{plain}
use Rattle.ccsl_refute.specs.Validity.{bad_from, first_bad_line}
use Rattle.ccsl_refute.specs.Below.{ClausesBelow}
use Rattle.ccsl_refute.proofs.checker.check.Given as goal

abbrev pub invariant-loop-i : goal.invariant-loop-i
invariant-loop-i l = record {
  within : l.i ≤ length l.lines;
  same : bad_from l.scope (map plain l.formulas) ((take l.i l.lines)) ((drop l.i l.lines)) ≡ first_bad_line l.scope (map plain l.formulas) (l.lines);
  below : ClausesBelow MAX_CLOCKS l.scope.declared ((take l.i l.lines));
}

abbrev pub decreases-loop-i : goal.decreases-loop-i
decreases-loop-i l = length l.lines - l.i
