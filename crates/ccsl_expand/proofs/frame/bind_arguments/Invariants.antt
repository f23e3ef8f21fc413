-- What stands in the setting, and what the rest adds, is the whole.
use Rattle.std.proofs.Common.{◌≡◌, ◌+◌, ◌++◌, drop, length, flat_map}
use Rattle.ccsl_rules.specs.Texts.{argument_texts}
use Rattle.ccsl_rules.specs.Settings.{argument_atoms}
use Rattle.ccsl_rules.specs.Unfolded.{arguments}
use Rattle.ccsl_expand.proofs.frame.bind_arguments.Given as goal

abbrev pub invariant-loop-i : goal.invariant-loop-i
invariant-loop-i l =
    record {
      setting : l.setting ++ arguments (drop l.i l.params) (argument_atoms l.words l.outer l.next (drop l.i l.args)) ≡ arguments l.params
          (argument_atoms l.words l.outer l.fn.next l.args);
      next : l.next + length (flat_map argument_texts (drop l.i l.args)) ≡ l.fn.next + length (flat_map argument_texts l.args);
    }
