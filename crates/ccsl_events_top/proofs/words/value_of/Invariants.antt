use Rattle.std.proofs.Common.{◌≡◌, drop}
use Rattle.ccsl_events_top.specs.Words.{value_of}
use Rattle.ccsl_events_top.proofs.words.value_of.Given as goal

abbrev pub invariant-loop-word : goal.invariant-loop-word
invariant-loop-word l = value_of l.key l.words ≡ value_of l.key (drop l.word-index l.words)
