-- The definitions before number i stand in the table.
use Rattle.std.proofs.Common.{◌≡◌, ◌+◌, length}
use Rattle.ccsl_state.proofs.Visiting.{ReadBefore}
use Rattle.ccsl_state.proofs.readers.Readers.open.Given as goal

abbrev pub invariant-loop-i : goal.invariant-loop-i
invariant-loop-i l = record {
  count : length l.sets.items ≡ l.system.declared + length l.system.definitions;
  before : ReadBefore l.system l.followed l.i l.sets.items;
}
