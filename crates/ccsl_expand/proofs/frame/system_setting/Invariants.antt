-- What stands in the setting, and what the rest adds, is the whole.
use Rattle.std.proofs.Common.{◌≡◌, ◌++◌, [], drop, map}
use Rattle.ccsl_ast.specs.Plain.{plain_sline}
use Rattle.ccsl_rules.specs.Unfolded.{own_clocks}
use Rattle.ccsl_expand.proofs.frame.system_setting.Given as goal

abbrev pub invariant-loop-line : goal.invariant-loop-line
invariant-loop-line l = l.setting ++ own_clocks [] (map plain_sline (drop l.line-index l.lines)) ≡ own_clocks [] (map plain_sline l.lines)
