use Rattle.std.proofs.Common.{◌≡◌, ◌≤◌}
use Rattle.ccsl_periodic.specs.Ones.{ones}
use Rattle.ccsl_periodic.proofs.letters.ones.Given as goal

abbrev pub invariant-loop-k : goal.invariant-loop-k
invariant-loop-k l = record { counted : l.count ≡ ones l.word l.k; few : l.count ≤ l.k }
