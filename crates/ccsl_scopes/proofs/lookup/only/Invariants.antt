use Rattle.std.proofs.Common.{◌≡◌, drop}
use Rattle.ccsl_scopes.specs.Paths.{only_from, only}
use Rattle.ccsl_scopes.proofs.lookup.only.Given as goal

abbrev pub invariant-loop-variable : goal.invariant-loop-variable
invariant-loop-variable l =
    only_from l.found l.exact l.path.parts.items l.path.select (drop l.variable-index l.variables)
    ≡ only l.exact l.path.parts.items l.path.select l.variables
