use Rattle.ccsl_vcd.proofs.WholeFile.{file-read, file-spelled}
use Rattle.ccsl_vcd.proofs.laws.file_grammar.Goals as goal

pub returns-clause-read : goal.returns-clause-read
returns-clause-read c = file-read

pub returns-clause-spelled : goal.returns-clause-spelled
returns-clause-spelled c = file-spelled
