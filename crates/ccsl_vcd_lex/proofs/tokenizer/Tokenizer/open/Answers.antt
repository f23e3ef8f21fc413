use Rattle.std.proofs.Common.{[], refl, arith}
use Rattle.ccsl_vcd_lex.specs.Tokens.{tokens_from}
use Rattle.ccsl_vcd_lex.specs.LongTokens.{first_long}
use Rattle.ccsl_vcd_lex.specs.Runs.{fresh_after}
use Rattle.ccsl_vcd_lex.proofs.tokenizer.Tokenizer.open.Goals as goal

pub returns-clause-stands : goal.returns-clause-stands
unfolding fresh_after tokens_from first_long
returns-clause-stands c = record {
  before = [];
  more = [];
  whole = refl;
  fresh = refl;
  short = refl;
  dark = tt;
  fits = omega arith;
  begin = refl;
  running = λ _. refl;
  too_long = λ h. absurd (cc);
}
