-- What stands in the setting, and what the rest adds, is the whole.
use Rattle.std.proofs.Common.{◌≡◌, ◌++◌, drop, map}
use Rattle.ccsl_ast.specs.Trees.{SLineOf}
use Rattle.ccsl_ast.specs.Plain.{plain_line}
use Rattle.ccsl_rules.specs.Unfolded.{own_clocks}
use Rattle.ccsl_expand.proofs.frame.bind_body.Given as goal

abbrev pub invariant-loop-line : goal.invariant-loop-line
invariant-loop-line l = l.setting ++ own_clocks l.path (map SLineOf (map plain_line (drop l.line-index l.lines))) ≡ l.fn.setting
    ++ own_clocks l.path (map SLineOf (map plain_line l.lines))
