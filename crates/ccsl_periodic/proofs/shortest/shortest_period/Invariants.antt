use Rattle.std.proofs.Common.{◌<◌, ℕ, length}
use Rattle.ccsl_periodic.specs.Repeats.{RepeatsFrom}
use Rattle.ccsl_periodic.proofs.shortest.shortest_period.Given as goal

abbrev pub invariant-loop-period : goal.invariant-loop-period
invariant-loop-period l = (n : ℕ) → 0 < n → n < l.period → RepeatsFrom l.word (length l.word.prefix) n → ⊥
