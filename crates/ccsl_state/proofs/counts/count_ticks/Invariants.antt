-- The constraints before number j are counted, and the cells of the others are as they were.
use Rattle.std.proofs.Common.{◌≡◌, ℕ, ◌+◌, ◌*◌, ◌<◌, ◌≤◌, Some, slice_get, slice_index}
use Rattle.ccsl_base.specs.Clocks.{ticks_in}
use Rattle.ccsl_kernel.specs.declared.constraint.Constraint.{Constraint}
use Rattle.ccsl_state.specs.Tree.{bumped}
use Rattle.ccsl_state.specs.Layout.{count_of}
use Rattle.ccsl_state.proofs.counts.count_ticks.Given as goal

abbrev pub invariant-loop-j : goal.invariant-loop-j
invariant-loop-j l = record {
  counted : (j : ℕ) (c : Constraint) → j < l.j → slice_get l.system.constraints j ≡ Some c →
      (count_of (slice_index l.cells (2 * j)) ≡ bumped (ticks_in c.left l.step) (count_of (slice_index l.initial.cells (2 * j))))
      × (count_of (slice_index l.cells (2 * j + 1)) ≡ bumped (ticks_in c.right l.step) (count_of (slice_index l.initial.cells (2 * j + 1))));
  kept : (k : ℕ) → 2 * l.j ≤ k → slice_index l.cells k ≡ slice_index l.initial.cells k;
}
