use Rattle.std.proofs.Common.{rules}
use Rattle.ccsl_lines.proofs.reader.LineReader.read_piece.Goals as goal

pub returns-clause-reads : goal.returns-clause-reads
returns-clause-reads g c = search rules

pub returns-in_default-clause-stops : goal.returns-in_default-clause-stops
returns-in_default-clause-stops g c = search rules
