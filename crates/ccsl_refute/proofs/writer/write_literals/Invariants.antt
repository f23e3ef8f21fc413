use Rattle.std.proofs.Common.{◌≡◌, ◌++◌, length, map}
use Rattle.ccsl_refute.specs.Below.{AreBelow}
use Rattle.ccsl_refute.specs.Writing.{spaced, literal_text}
use Rattle.ccsl_refute.proofs.writer.write_literals.Given as goal

abbrev pub invariant-literals : goal.invariant-literals
invariant-literals l = record {
  below : AreBelow (length l.names) l.rest;
  same : l.text.items ++ spaced (map (literal_text l.names) l.rest) ≡ l.initial.text.items ++ spaced (map (literal_text l.names) l.lits);
}

abbrev pub decreases-literals : goal.decreases-literals
decreases-literals l = length l.rest
