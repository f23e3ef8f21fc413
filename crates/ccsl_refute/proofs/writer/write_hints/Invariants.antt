use Rattle.std.proofs.Common.{◌≡◌, ◌++◌, decimal, length, map}
use Rattle.ccsl_refute.specs.Writing.{spaced}
use Rattle.ccsl_refute.proofs.writer.write_hints.Given as goal

abbrev pub invariant-hints : goal.invariant-hints
invariant-hints l = l.text.items ++ spaced (map decimal l.rest) ≡ l.initial.text.items ++ spaced (map decimal l.hints)

abbrev pub decreases-hints : goal.decreases-hints
decreases-hints l = length l.rest
