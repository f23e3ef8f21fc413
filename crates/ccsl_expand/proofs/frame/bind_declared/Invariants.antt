-- What stands in the setting, and what the rest adds, is the whole.
use Rattle.std.proofs.Common.{◌≡◌, ◌++◌, [], drop, map}
use Rattle.ccsl_rules.specs.Settings.{AClock}
use Rattle.ccsl_rules.specs.Unfolded.{inside}
use Rattle.ccsl_expand.proofs.frame.bind_declared.Given as goal

abbrev pub invariant-loop-name : goal.invariant-loop-name
invariant-loop-name l = l.setting ++ map (λ x. (x.name, AClock (inside [] x.name))) (drop l.name-index l.names) ≡ l.fn.setting
    ++ map (λ x. (x.name, AClock (inside [] x.name))) l.names
