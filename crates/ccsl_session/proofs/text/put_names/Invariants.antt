use Rattle.std.proofs.Common.{◌≡◌, ◌++◌, length, true}
use Rattle.ccsl_base.specs.Clocks.{are_below}
use Rattle.ccsl_session.specs.Answers.{blank_names}
use Rattle.ccsl_session.proofs.text.put_names.Given as goal

-- what stands, and the names of the clocks that are left, are the whole
abbrev pub invariant-loop-clock : goal.invariant-loop-clock
invariant-loop-clock l = record {
  text : l.out.items ++ blank_names l.system l.clock-iterator ≡ l.initial.out.items ++ blank_names l.system l.set;
  below : are_below (length l.system.names) l.clock-iterator ≡ true;
}
