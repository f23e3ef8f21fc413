use Rattle.std.proofs.Common.{◌≡◌, length, take}
use Rattle.std.specs.List.{All}
use Rattle.ccsl_explain.specs.Used.{Cites, IsUsed}
use Rattle.ccsl_explain.proofs.used.used_items.Given as goal

abbrev pub invariant-loop-line : goal.invariant-loop-line
invariant-loop-line l = (length l.used.items ≡ l.items) × All (Cites (IsUsed l.used.items)) (take l.line-index l.lines)
