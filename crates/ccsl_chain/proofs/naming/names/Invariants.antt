-- The declared names, and the hidden ones so far.
use Rattle.std.proofs.Common.{◌≡◌, ◌++◌, map}
use Rattle.std.specs.List.{range_with_len}
use Rattle.ccsl_chain.specs.Chain.{clock_name, hidden_name}
use Rattle.ccsl_chain.proofs.naming.names.Given as goal

abbrev pub invariant-loop-i : goal.invariant-loop-i
invariant-loop-i l = l.names ≡ map clock_name (range_with_len 0 l.clocks) ++ map hidden_name (range_with_len 0 l.i)
