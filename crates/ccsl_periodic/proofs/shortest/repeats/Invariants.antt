use Rattle.std.proofs.Common.{◌≡◌, ◌+◌, ◌<◌, ◌≤◌, ℕ, length}
use Rattle.ccsl_words.specs.Word.{letter}
use Rattle.ccsl_periodic.proofs.shortest.repeats.Given as goal

abbrev pub invariant-loop-k : goal.invariant-loop-k
invariant-loop-k l = (j : ℕ) → length l.word.prefix ≤ j → j < l.k → letter l.word (j + l.period) ≡ letter l.word j
