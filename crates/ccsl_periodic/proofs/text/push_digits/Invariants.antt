use Rattle.std.proofs.Common.{◌≡◌, ◌++◌, take}
use Rattle.ccsl_words.specs.Spelling.{digits}
use Rattle.ccsl_periodic.proofs.text.push_digits.Given as goal

abbrev pub invariant-loop-letter : goal.invariant-loop-letter
invariant-loop-letter l = l.text.items ≡ l.initial.text.items ++ digits (take l.letter-index l.letters)
