use Rattle.std.proofs.Common.{IsTrue}
use Rattle.ccsl_base.specs.declared.limits.TheConstants.{MAX_CLOCKS}
use Rattle.ccsl_base.specs.Clocks.{is_ascending, are_below}
use Rattle.ccsl_base.proofs.Taking.{IsTaking}
use Rattle.ccsl_base.proofs.clock_set.ClockSet.below.Given as goal

abbrev pub invariant-loop-clock : goal.invariant-loop-clock
invariant-loop-clock l = record {
  taking : IsTaking l.bound l.self l.set l.clock-iterator;
  ascending : IsTrue (is_ascending l.self);
  below : IsTrue (are_below MAX_CLOCKS l.clock-iterator);
}
