use Rattle.std.specs.Prelude.{⊤}
use Rattle.std.proofs.Common.{◌<◌, MatchOption, length}
use Rattle.ccsl_guide.proofs.watches.best_watch.Given as goal

abbrev pub invariant-loop-place : goal.invariant-loop-place
invariant-loop-place l = MatchOption l.best ⊤ (λ place. place < length l.lits)
