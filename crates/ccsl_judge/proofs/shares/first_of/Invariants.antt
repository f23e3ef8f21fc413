use Rattle.std.proofs.Common.{ℕ, List, drop}
use Rattle.ccsl_base.specs.declared.rows.Row.{Row}
use Rattle.ccsl_kernel.specs.Syntax.{System}
use Rattle.ccsl_judge.specs.Divided.{FollowAll}
use Rattle.ccsl_judge.proofs.Combining.{Found}
use Rattle.ccsl_judge.proofs.shares.first_of.Given as goal

abbrev pub invariant-loop-share : goal.invariant-loop-share
invariant-loop-share l =
    (K : System) (bound : List ℕ) (rows : List Row) → FollowAll K bound rows l.shares → Found K bound rows (drop l.share-index l.shares) l.first
