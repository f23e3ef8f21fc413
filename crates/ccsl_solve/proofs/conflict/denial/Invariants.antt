use Rattle.std.proofs.Common.{◌≡◌, ◌++◌, map}
use Rattle.ccsl_solve.specs.Conflict.{denied}
use Rattle.ccsl_solve.proofs.conflict.denial.Given as goal

abbrev pub invariant-loop-clock : goal.invariant-loop-clock
invariant-loop-clock l = record {
  split : l.yielded ++ l.clock-iterator ≡ l.part;
  lits : l.lits.items ≡ map denied l.yielded;
}
