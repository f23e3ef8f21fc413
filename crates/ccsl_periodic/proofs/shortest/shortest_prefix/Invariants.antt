use Rattle.std.proofs.Common.{◌≤◌, length}
use Rattle.ccsl_periodic.specs.Repeats.{RepeatsFrom}
use Rattle.ccsl_periodic.proofs.shortest.shortest_prefix.Given as goal

abbrev pub invariant-loop-place : goal.invariant-loop-place
invariant-loop-place l = record { within : l.place ≤ length l.word.prefix; repeats : RepeatsFrom l.word l.place l.period }

abbrev pub decreases-loop-place : goal.decreases-loop-place
decreases-loop-place l = l.place
