use Rattle.std.proofs.Common.{◌≡◌, [], length}
use Rattle.ccsl_kernel.specs.Accepted.{Each}
use Rattle.ccsl_relate.specs.Watching.{Keeps}
use Rattle.ccsl_relate.proofs.watched.open_all.Given as goal

abbrev pub invariant-loop-place : goal.invariant-loop-place
invariant-loop-place l = record { keeps : Each (Keeps l.system l.recorded []) l.start l.kept.items; count : length l.kept.items ≡ l.place }
