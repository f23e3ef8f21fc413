use Rattle.std.proofs.Common.{◌≡◌, ◌≤◌, true, length, drop}
use Rattle.ccsl_formula.specs.Known.{known}
use Rattle.ccsl_refute.specs.Literals.{are_proper, falsified}
use Rattle.ccsl_refute.proofs.checker.assumed.Given as goal

abbrev pub invariant-loop-i : goal.invariant-loop-i
invariant-loop-i l = record {
  within : l.i ≤ length l.lits;
  proper : are_proper l.named (drop l.i l.lits) ≡ true;
  known : known l.part ≡ falsified (drop l.i l.lits);
}

abbrev pub decreases-loop-i : goal.decreases-loop-i
decreases-loop-i l = l.i
