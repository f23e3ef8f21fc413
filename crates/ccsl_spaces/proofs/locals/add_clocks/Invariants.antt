-- What stands in the space, and what the rest adds, is the whole.
use Rattle.std.proofs.Common.{◌≡◌, ◌++◌, drop, map}
use Rattle.ccsl_rules.specs.Spaces.{clock_known}
use Rattle.ccsl_spaces.proofs.locals.add_clocks.Given as goal

abbrev pub invariant-loop-name : goal.invariant-loop-name
invariant-loop-name l = l.space ++ map (clock_known l.since) (drop l.name-index l.names) ≡ l.initial.space ++ map (clock_known l.since) l.names
