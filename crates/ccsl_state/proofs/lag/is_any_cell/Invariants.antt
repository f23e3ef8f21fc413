-- No bit of the cells before is set.
use Rattle.std.proofs.Common.{◌≡◌, false, take}
use Rattle.ccsl_state.specs.Tree.{any_set}
use Rattle.ccsl_state.specs.Layout.{bits_of}
use Rattle.ccsl_state.proofs.lag.is_any_cell.Given as goal

abbrev pub invariant-loop-i : goal.invariant-loop-i
invariant-loop-i l = any_set (bits_of (take l.i l.cells)) ≡ false
