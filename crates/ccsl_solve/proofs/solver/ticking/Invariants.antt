use Rattle.std.proofs.Common.{◌≡◌, ◌<◌, ◌≤◌, ℕ, false}
use Rattle.ccsl_base.specs.Clocks.{ticks_in}
use Rattle.ccsl_formula.specs.Known.{known}
use Rattle.ccsl_solve.specs.Under.{is_yes}
use Rattle.ccsl_solve.proofs.solver.ticking.Given as goal

abbrev pub invariant-loop-clock : goal.invariant-loop-clock
invariant-loop-clock l = record {
  below : (x : ℕ) → x < l.clock → ticks_in x l.set ≡ is_yes (known l.part x);
  above : (x : ℕ) → l.clock ≤ x → ticks_in x l.set ≡ false;
}
