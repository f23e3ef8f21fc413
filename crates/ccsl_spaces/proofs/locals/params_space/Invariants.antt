-- What stands in the space, and what the rest adds, is the whole.
use Rattle.std.proofs.Common.{◌≡◌, ◌++◌, drop}
use Rattle.ccsl_rules.specs.Spaces.{params_space}
use Rattle.ccsl_spaces.proofs.locals.params_space.Given as goal

abbrev pub invariant-loop-param : goal.invariant-loop-param
invariant-loop-param l = l.space ++ params_space (drop l.param-index l.params) ≡ params_space l.params
