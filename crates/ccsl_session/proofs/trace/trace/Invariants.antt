use Rattle.std.proofs.Common.{◌≡◌, take}
use Rattle.ccsl_kernel.specs.Runs.{completed}
use Rattle.ccsl_state.specs.Held.{StandsFor}
use Rattle.ccsl_vcd_write.specs.Text.{vcd_text}
use Rattle.ccsl_session.proofs.trace.trace.Given as goal

-- the first sets were written, and the states are those behind them
abbrev pub invariant-loop-n : goal.invariant-loop-n
invariant-loop-n l = record {
  system : l.states.system ≡ l.system;
  stands : StandsFor l.states (completed l.system (take l.n l.sets));
  text : l.text.items ≡ vcd_text l.system (completed l.system (take l.n l.sets));
}
