use Rattle.std.proofs.Common.{◌≡◌, true, take}
use Rattle.ccsl_relate.specs.Watching.{are_sets}
use Rattle.ccsl_relate.proofs.steps.rows_are_sets.Given as goal

abbrev pub invariant-loop-i : goal.invariant-loop-i
invariant-loop-i l = are_sets (take l.i l.rows) ≡ true
