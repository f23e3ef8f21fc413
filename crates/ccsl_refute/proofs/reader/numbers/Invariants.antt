use Rattle.std.proofs.Common.{◌≡◌, length}
use Rattle.ccsl_refute.specs.Reading.{read_numbers}
use Rattle.ccsl_refute.proofs.InOrder.{put_before}
use Rattle.ccsl_refute.proofs.reader.numbers.Given as goal

abbrev pub invariant-numbers : goal.invariant-numbers
invariant-numbers l = put_before l.hints.items (read_numbers l.tokens.0) ≡ read_numbers l.initial.tokens.0

abbrev pub decreases-numbers : goal.decreases-numbers
decreases-numbers l = length l.tokens.0
