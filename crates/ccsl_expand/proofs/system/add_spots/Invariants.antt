-- What stands in the list, and what the rest adds, is the whole.
use Rattle.std.proofs.Common.{◌≡◌, ◌++◌, drop, map}
use Rattle.ccsl_expand.proofs.system.add_spots.Given as goal

abbrev pub invariant-loop-spot : goal.invariant-loop-spot
invariant-loop-spot l = l.names.items ++ map (λ s. s.name) (drop l.spot-index l.spots) ≡ l.fn.names.items ++ map (λ s. s.name) l.spots
