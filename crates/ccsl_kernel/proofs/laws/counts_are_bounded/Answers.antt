-- At most one tick a step.
use Rattle.ccsl_kernel.proofs.Bounded.{clocks_bounded, operands_bounded}
use Rattle.ccsl_kernel.proofs.laws.counts_are_bounded.Goals as goal

pub returns : goal.returns
returns c = record { clocks = clocks_bounded; operands = operands_bounded }
