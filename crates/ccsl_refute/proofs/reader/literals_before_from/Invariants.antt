use Rattle.std.proofs.Common.{◌≡◌, length}
use Rattle.ccsl_refute.specs.Reading.{read_literals, before_from, after_from}
use Rattle.ccsl_refute.proofs.InOrder.{put_before}
use Rattle.ccsl_refute.proofs.reader.literals_before_from.Given as goal

abbrev pub invariant-before_from : goal.invariant-before_from
invariant-before_from l = record {
  literals : put_before l.lits.items (read_literals l.names (before_from l.tokens.0)) ≡ read_literals l.names (before_from l.initial.tokens.0);
  from : after_from l.tokens.0 ≡ after_from l.initial.tokens.0;
  end : l.tokens.1 ≡ l.initial.tokens.1;
}

abbrev pub decreases-before_from : goal.decreases-before_from
decreases-before_from l = length l.tokens.0
