use Rattle.std.proofs.Common.{◌≡◌, take}
use Rattle.std.specs.List.{sum_by}
use Rattle.ccsl_base.specs.Bits.{size_of_word}
use Rattle.ccsl_base.proofs.clock_set.ClockSet.len.Given as goal

abbrev pub invariant-loop-word : goal.invariant-loop-word
invariant-loop-word l = l.count ≡ sum_by size_of_word (take l.word-index l.word-items)
