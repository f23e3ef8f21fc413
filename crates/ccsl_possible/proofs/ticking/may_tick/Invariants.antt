use Rattle.std.proofs.Common.{map}
use Rattle.ccsl_formula.specs.Plain.{plain}
use Rattle.ccsl_possible.specs.Ticking.{AllMayTick, AreThoseBelow}
use Rattle.ccsl_possible.proofs.ticking.may_tick.Given as goal

-- the clocks that were found may tick, and of those below the present one all that may were taken
abbrev pub invariant-loop-clock : goal.invariant-loop-clock
invariant-loop-clock l = record {
  found : AllMayTick l.scope (map plain l.formulas) l.found;
  clocks : AreThoseBelow l.scope (map plain l.formulas) l.clock l.clocks;
}
