use Rattle.std.proofs.Common.{◌≡◌, ◌≤◌, ◌||◌}
use Rattle.ccsl_base.proofs.Words.{Joined}
use Rattle.ccsl_base.proofs.clock_set.ClockSet.insert_all.Given as goal

-- the first word was joined before the loop
abbrev pub invariant-loop-i : goal.invariant-loop-i
invariant-loop-i l = record {
  begun : 1 ≤ l.i;
  same : l.self-inside.used ≡ l.initial.self-inside.used;
  joined : Joined (λ a b. a || b) l.i l.self-inside.words l.initial.self-inside.words l.other-inside.words;
}
