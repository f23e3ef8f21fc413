-- A call goes to an earlier definition.
use Rattle.std.proofs.Common.{◌≡◌, ◌+◌, ◌*◌}
use Rattle.ccsl_origin.proofs.walk.Walk.+walking.Given as goal

abbrev pub decreases-is_from : goal.decreases-is_from
decreases-is_from l = 2 * l.limit

abbrev pub decreases-is_in : goal.decreases-is_in
decreases-is_in l = 2 * l.limit + 1

-- The lines that were passed have left no trail.
abbrev pub invariant-is_in-loop-line : goal.invariant-is_in-loop-line
invariant-is_in-loop-line l = l.self.trail.items ≡ l.fn.self.trail.items
