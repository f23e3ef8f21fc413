use Rattle.std.proofs.Common.{rules}
use Rattle.ccsl_vcd_lex.proofs.tokenizer.Tokenizer.close.Goals as goal

pub returns-clause-span : goal.returns-clause-span
returns-clause-span c = search rules
