use Rattle.std.proofs.Common.{◌≡◌, ◌≤◌, length, drop, ◌-◌}
use Rattle.ccsl_formula.specs.Known.{known}
use Rattle.ccsl_refute.specs.Validity.{closes}
use Rattle.ccsl_refute.proofs.checker.closes.Given as goal

abbrev pub invariant-loop-i : goal.invariant-loop-i
invariant-loop-i l = record {
  within : l.i ≤ length l.hints;
  same : closes l.scope.declared (l.lines) (known l.part) (drop l.i l.hints) ≡ closes l.scope.declared (l.lines) (known l.fn.start) l.hints;
}

abbrev pub decreases-loop-i : goal.decreases-loop-i
decreases-loop-i l = length l.hints - l.i
