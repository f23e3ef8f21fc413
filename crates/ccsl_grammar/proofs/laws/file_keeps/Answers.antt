use Rattle.ccsl_grammar.proofs.Keeps.{file_keeps}
use Rattle.ccsl_grammar.proofs.laws.file_keeps.Goals as goal

pub returns : goal.returns
returns c = file_keeps
