use Rattle.ccsl_lex.proofs.Answered.{tokens_or_fault}
use Rattle.ccsl_lex.proofs.laws.tokens_or_fault.Goals as goal

pub returns : goal.returns
returns c = tokens_or_fault
