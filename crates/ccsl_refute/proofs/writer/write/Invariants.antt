use Rattle.std.proofs.Common.{◌≡◌, take}
use Rattle.std.specs.List.{All}
use Rattle.ccsl_refute.specs.NumbersFit.{NumbersFit}
use Rattle.ccsl_refute.specs.Writing.{lines_text}
use Rattle.ccsl_refute.proofs.writer.write.Given as goal

abbrev pub invariant-lines : goal.invariant-lines
invariant-lines l = record {
  fit : All NumbersFit (take l.line-index l.lines);
  text : l.text.items ≡ lines_text l.names (take l.line-index l.lines);
}
