-- The clocks that are left decide.
use Rattle.std.proofs.Common.{◌≡◌}
use Rattle.ccsl_base.specs.Clocks.{are_below}
use Rattle.ccsl_follow.proofs.states.are_declared.Given as goal

abbrev pub invariant-loop-clock : goal.invariant-loop-clock
invariant-loop-clock l = are_below l.declared l.fn.clocks ≡ are_below l.declared l.clock-iterator
