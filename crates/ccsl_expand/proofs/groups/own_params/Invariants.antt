-- What stands in the list, and what the rest adds, is the whole.
use Rattle.std.proofs.Common.{◌≡◌, ◌++◌, drop}
use Rattle.ccsl_rules.specs.Expansion.{own_params}
use Rattle.ccsl_expand.proofs.groups.own_params.Given as goal

abbrev pub invariant-loop-i : goal.invariant-loop-i
invariant-loop-i l = l.setting ++ own_params l.i (drop l.i l.params) ≡ own_params 0 l.params
