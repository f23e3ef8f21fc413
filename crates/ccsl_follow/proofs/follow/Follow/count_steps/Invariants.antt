-- The rows so far are counted.
use Rattle.std.proofs.Common.{◌≡◌, ◌+◌, ◌<◌, ◌^◌, List, ◌++◌, take, length}
use Rattle.ccsl_base.specs.declared.rows.Row.{Row}
use Rattle.ccsl_follow.specs.Counting.{HasCounted}
use Rattle.ccsl_follow.proofs.follow.Follow.count_steps.Given as goal

abbrev pub invariant-loop-i : goal.invariant-loop-i
invariant-loop-i l = record {
  counted : (rows : List Row) → HasCounted l.fn.self.steps.part l.fn.self.counts rows → length rows + length l.block.rows < 2 ^ 64
      → HasCounted l.self.steps.part l.self.counts (rows ++ take l.i l.block.rows);
  made : l.self.made ≡ l.fn.self.made;
  broken : l.self.broken ≡ l.fn.self.broken;
}
