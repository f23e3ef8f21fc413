use Rattle.std.proofs.Common.{◌≡◌, drop}
use Rattle.std.specs.List.{find}
use Rattle.std.specs.Str.{bytes_eq}
use Rattle.ccsl_base.specs.ReservedWords.{spelling, reserved, all_words}
use Rattle.ccsl_base.proofs.reserved.Reserved.spelled.Given as goal

-- the words so far are spelled otherwise
abbrev pub invariant-loop-word : goal.invariant-loop-word
invariant-loop-word l = find (λ word. bytes_eq l.text (spelling word)) (drop l.word-index all_words) ≡ reserved l.text
