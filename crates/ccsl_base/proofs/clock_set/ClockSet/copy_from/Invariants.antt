use Rattle.std.proofs.Common.{◌≡◌, get_or}
use Rattle.ccsl_base.proofs.Differences.{Made}
use Rattle.ccsl_base.proofs.clock_set.ClockSet.copy_from.Given as goal

abbrev pub invariant-loop-i : goal.invariant-loop-i
invariant-loop-i l = record {
  same : l.self-inside.used ≡ l.initial.self-inside.used;
  made : Made (λ j word. word ≡ get_or l.other-inside.words j 0) l.i l.self-inside.words l.initial.self-inside.words;
}
