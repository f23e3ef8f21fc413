use Rattle.std.proofs.Common.{◌≡◌, get_or}
use Rattle.ccsl_base.proofs.Differences.{Made, IsBeyond}
use Rattle.ccsl_base.proofs.clock_set.ClockSet.copy_difference.Given as goal

abbrev pub invariant-loop-i : goal.invariant-loop-i
invariant-loop-i l = record {
  same : l.self-inside.used ≡ l.initial.self-inside.used;
  made : Made (λ j word. IsBeyond (get_or l.one-inside.words j 0) (get_or l.other-inside.words j 0) word) l.i l.self-inside.words l.initial.self-inside.words;
}
