use Rattle.ccsl_base.proofs.Differences.{Within}
use Rattle.ccsl_base.proofs.clock_set.ClockSet.is_subset.Given as goal

abbrev pub invariant-loop-i : goal.invariant-loop-i
invariant-loop-i l = Within l.i l.self-inside.words l.other-inside.words
