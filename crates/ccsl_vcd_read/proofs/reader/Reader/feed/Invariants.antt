use Rattle.std.proofs.Common.{◌-◌, length}
use Rattle.ccsl_vcd_read.proofs.Feeding.{Passed}
use Rattle.ccsl_vcd_read.proofs.reader.Reader.feed.Given as goal

abbrev pub invariant-loop-from : goal.invariant-loop-from
invariant-loop-from l = Passed l.fn.self l.self l.fn.out l.out l.piece l.from

abbrev pub decreases-loop-from : goal.decreases-loop-from
decreases-loop-from l = length l.initial.piece - l.from
