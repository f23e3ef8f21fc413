-- The columns so far.
use Rattle.std.proofs.Common.{◌≡◌}
use Rattle.ccsl_plain.specs.Columns.{columns}
use Rattle.ccsl_plain.proofs.plain.deaths_before.Given as goal

abbrev pub invariant-loop-i : goal.invariant-loop-i
invariant-loop-i l = l.columns.items ≡ columns l.system l.list l.i
