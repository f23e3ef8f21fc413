use Rattle.std.proofs.Common.{◌≡◌, map}
use Rattle.std.specs.List.{range_with_len}
use Rattle.ccsl_words.specs.Word.{letter}
use Rattle.ccsl_periodic.proofs.text.first_letters.Given as goal

abbrev pub invariant-loop-k : goal.invariant-loop-k
invariant-loop-k l = l.letters.items ≡ map (letter l.word) (range_with_len 0 l.k)
