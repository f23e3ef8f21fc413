use Rattle.std.proofs.Common.{◌++◌}
use Rattle.std.specs.List.{concat}
use Rattle.ccsl_report.specs.Parts.{part_texts}
use Rattle.ccsl_report.specs.Texts.{parted}
use Rattle.ccsl_report.proofs.Members.{IsNaming}
use Rattle.ccsl_report.proofs.explained.push_names.Given as goal

-- the names of the clocks so far stand there
abbrev pub invariant-loop-clock : goal.invariant-loop-clock
invariant-loop-clock l =
    IsNaming l.system (concat (part_texts l.fn.parts.items) ++ concat (parted l.system l.clocks)) l.parts.items l.clock-iterator
