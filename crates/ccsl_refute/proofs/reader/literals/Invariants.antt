use Rattle.std.proofs.Common.{◌≡◌, length}
use Rattle.ccsl_refute.specs.Reading.{read_literals}
use Rattle.ccsl_refute.proofs.InOrder.{put_before}
use Rattle.ccsl_refute.proofs.reader.literals.Given as goal

abbrev pub invariant-literals : goal.invariant-literals
invariant-literals l = put_before l.lits.items (read_literals l.names l.tokens.0) ≡ read_literals l.names l.initial.tokens.0

abbrev pub decreases-literals : goal.decreases-literals
decreases-literals l = length l.tokens.0
