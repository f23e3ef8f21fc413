use Rattle.std.proofs.Common.{◌≡◌, ◌++◌}
use Rattle.ccsl_triggers.specs.Output.{tick_lines}
use Rattle.ccsl_triggers.proofs.row.put_ticks.Given as goal

abbrev pub invariant-loop-name : goal.invariant-loop-name
invariant-loop-name l = l.out.items ++ tick_lines l.name-iterator ≡ l.fn.out.items ++ tick_lines l.names
