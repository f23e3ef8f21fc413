-- The greatest so far and that of the rest is that of the whole.
use Rattle.std.proofs.Common.{◌≡◌, drop, map, flat_map, max}
use Rattle.ccsl_ast.specs.Plain.{plain_line}
use Rattle.ccsl_rules.specs.Levels.{called_line}
use Rattle.ccsl_spaces.specs.Callees.{seen_call}
use Rattle.ccsl_faults.specs.Levels.{height_of}
use Rattle.ccsl_faults.proofs.levels.lines_height.Given as goal

abbrev pub invariant-loop-line : goal.invariant-loop-line
invariant-loop-line l =
    max l.height (height_of (map seen_call l.calls) l.levels (flat_map called_line (map plain_line (drop l.line-index l.lines))))
    ≡ height_of (map seen_call l.calls) l.levels (flat_map called_line (map plain_line l.lines))
