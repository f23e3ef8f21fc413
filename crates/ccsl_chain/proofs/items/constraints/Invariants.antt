-- The constraints so far.
use Rattle.std.proofs.Common.{◌≡◌, flat_map}
use Rattle.std.specs.List.{range_with_len}
use Rattle.ccsl_chain.specs.Chain.{alternation}
use Rattle.ccsl_chain.proofs.items.constraints.Given as goal

abbrev pub invariant-loop-i : goal.invariant-loop-i
invariant-loop-i l = l.out.items ≡ flat_map (alternation l.clocks) (range_with_len 0 l.i)
