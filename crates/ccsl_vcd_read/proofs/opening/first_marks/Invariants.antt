use Rattle.std.proofs.Common.{◌≡◌, [], map}
use Rattle.ccsl_vcd_read.specs.Marks.{mark_of}
use Rattle.ccsl_vcd_read.proofs.Openings.{below}
use Rattle.ccsl_vcd_read.proofs.opening.first_marks.Given as goal

abbrev pub invariant-loop-clock : goal.invariant-loop-clock
invariant-loop-clock l = l.marks ≡ map (mark_of l.binding.codes [] []) (below l.clock l.binding.bound)
