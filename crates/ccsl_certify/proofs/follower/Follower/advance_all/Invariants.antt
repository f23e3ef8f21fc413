use Rattle.std.proofs.Common.{◌≡◌, ◌+◌, ◌<◌, ◌^◌, ◌++◌, List, length, take}
use Rattle.ccsl_base.specs.declared.rows.Row.{Row}
use Rattle.ccsl_certify.specs.Replaying.{AreAfter}
use Rattle.ccsl_certify.proofs.follower.Follower.advance_all.Given as goal

-- the states have taken the first rows of the block
abbrev pub invariant-loop-i : goal.invariant-loop-i
invariant-loop-i l = record {
  system : l.self.system ≡ l.fn.self.system;
  monitor : l.self.monitor ≡ l.fn.self.monitor;
  after : (rows : List Row) → AreAfter l.fn.self.system.now rows l.fn.self.states → length rows + length l.block.rows < 2 ^ 64
      → AreAfter l.fn.self.system.now (rows ++ take l.i l.block.rows) l.self.states;
}
