use Rattle.std.proofs.Common.{◌≡◌, ◌≤◌, drop}
use Rattle.ccsl_vcd_read.proofs.Numbers.{value_of}
use Rattle.ccsl_vcd_read.proofs.number.number.Given as goal

abbrev pub invariant-loop-b : goal.invariant-loop-b
invariant-loop-b l = (value_of l.limit l.value (drop l.b-index l.text) ≡ value_of l.limit 0 l.text) × (l.value ≤ l.limit)
