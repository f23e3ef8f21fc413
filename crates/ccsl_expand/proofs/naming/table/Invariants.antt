-- The table holds the names so far, and those behind them are the rest.
use Rattle.std.proofs.Common.{◌≡◌, ◌++◌, drop}
use Rattle.ccsl_expand.proofs.naming.table.Given as goal

abbrev pub invariant-loop-name : goal.invariant-loop-name
invariant-loop-name l = l.table ++ drop l.name-index l.names ≡ l.names
