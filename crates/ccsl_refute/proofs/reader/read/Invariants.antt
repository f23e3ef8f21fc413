use Rattle.std.proofs.Common.{◌≡◌, ◌+◌, ◌-◌, ◌≤◌, length, drop}
use Rattle.ccsl_refute.specs.Text.{lines_from}
use Rattle.ccsl_refute.specs.Reading.{read_lines, reading}
use Rattle.ccsl_refute.proofs.InOrder.{put_before}
use Rattle.ccsl_refute.proofs.reader.read.Given as goal

abbrev pub invariant-lines : goal.invariant-lines
invariant-lines l = record {
  within : l.at ≤ length l.text + 1;
  same : put_before l.lines.items (read_lines l.names (lines_from l.at (drop l.at l.text))) ≡ reading l.names l.text;
}

abbrev pub decreases-lines : goal.decreases-lines
decreases-lines l = length l.text + 1 - l.at
