-- So many rows were taken, and the others are still to be.
use Rattle.std.proofs.Common.{◌≤◌, ◌-◌, length, take}
use Rattle.std.specs.Prelude.{IsSome}
use Rattle.ccsl_relate.specs.Taking.{Takes}
use Rattle.ccsl_relate.proofs.monitor.Monitor.check_parts.Given as goal

abbrev pub invariant-parts : goal.invariant-parts
invariant-parts l = record {
  within : l.from ≤ length l.rows;
  states : IsSome l.self.states;
  takes : Takes l.fn.self l.self (take l.from l.rows);
}

abbrev pub decreases-parts : goal.decreases-parts
decreases-parts l = length l.rows - l.from
