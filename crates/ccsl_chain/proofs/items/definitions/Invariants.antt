-- The definitions so far.
use Rattle.std.proofs.Common.{◌≡◌, map}
use Rattle.std.specs.List.{range_with_len}
use Rattle.ccsl_kernel.specs.Plain.{plain_expr}
use Rattle.ccsl_chain.specs.Chain.{all_but_first}
use Rattle.ccsl_chain.proofs.items.definitions.Given as goal

abbrev pub invariant-loop-i : goal.invariant-loop-i
invariant-loop-i l = map plain_expr l.out.items ≡ map all_but_first (range_with_len 0 l.i)
