use Rattle.std.proofs.Common.{◌≡◌, ◌++◌, take}
use Rattle.ccsl_vcd_write.specs.Text.{text_of, var_lines}
use Rattle.ccsl_vcd_write.proofs.writer.put_vars.Given as goal

abbrev pub invariant-loop-clock : goal.invariant-loop-clock
invariant-loop-clock l = l.out.items ≡ l.initial.out.items ++ text_of (var_lines 0 (take l.clock l.names))
