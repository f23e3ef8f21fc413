use Rattle.std.proofs.Common.{◌≡◌, ◌-◌, length, take}
use Rattle.ccsl_vcd_read.specs.Run.{Fills}
use Rattle.ccsl_vcd_read.proofs.Run.{RunsBefore}
use Rattle.ccsl_vcd_read.proofs.body.Body.run.Given as goal

abbrev pub invariant-loop-out : goal.invariant-loop-out
invariant-loop-out l = record {
  so_far : RunsBefore l.fn.self l.self l.at l.piece l.rest l.fn.out.rows l.out.rows;
  room : l.out.room ≡ l.fn.out.room;
  full : length l.out.rows ≡ l.out.room → Fills l.fn.self l.at (take (length l.piece - length l.rest) l.piece) l.fn.out.rows l.fn.out.room;
}

abbrev pub decreases-loop-out : goal.decreases-loop-out
decreases-loop-out l = length l.rest
