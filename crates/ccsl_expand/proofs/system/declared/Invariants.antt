-- What stands in the list, and what the rest adds, is the whole.
use Rattle.std.proofs.Common.{◌≡◌, ◌++◌, drop, map, flat_map}
use Rattle.ccsl_ast.specs.Plain.{plain_sline}
use Rattle.ccsl_rules.specs.Expansion.{declared_names}
use Rattle.ccsl_expand.proofs.system.declared.Given as goal

abbrev pub invariant-loop-line : goal.invariant-loop-line
invariant-loop-line l = l.names.items ++ flat_map declared_names (map plain_sline (drop l.line-index l.lines)) ≡ flat_map declared_names
    (map plain_sline l.lines)
