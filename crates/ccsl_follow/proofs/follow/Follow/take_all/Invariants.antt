-- The rows so far are counted, unless the trace is left.
use Rattle.std.proofs.Common.{◌≡◌, ◌+◌, ◌<◌, ◌^◌, List, ◌++◌, false, is_some, take, length}
use Rattle.ccsl_base.specs.declared.rows.Row.{Row}
use Rattle.ccsl_follow.specs.Counting.{HasCounted}
use Rattle.ccsl_follow.proofs.follow.Follow.take_all.Given as goal

abbrev pub invariant-loop-i : goal.invariant-loop-i
invariant-loop-i l = (rows : List Row) → HasCounted l.fn.self.steps.part l.fn.self.counts rows → length rows + length l.block.rows < 2 ^ 64
    → is_some l.self.broken ≡ false → HasCounted l.self.steps.part l.self.counts (rows ++ take l.i l.block.rows)
