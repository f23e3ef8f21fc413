use Rattle.std.proofs.Common.{[], refl, arith}
use Rattle.ccsl_vcd_lex.specs.Tokens.{tokens_from}
use Rattle.ccsl_vcd_lex.specs.LongTokens.{first_long}
use Rattle.ccsl_vcd.specs.Rows.{rows}
use Rattle.ccsl_vcd.specs.Places.{commands}
use Rattle.ccsl_bind.specs.Collected.{wanted_of}
use Rattle.ccsl_vcd_read.proofs.Taking.{stands-of}
use Rattle.ccsl_vcd_read.proofs.reader.Reader.open.Goals as goal

pub returns-clause-stands : goal.returns-clause-stands
unfolding tokens_from first_long rows
returns-clause-stands c =
    stands-of (wanted_of c.args.system.now) _ [] refl (record {
      lexes = c.in_ok-lexer.ensures;
      short = refl;
      taken = refl;
      within = omega arith;
      pictures = record { among = commands; declared = []; told = refl; binds = c.in_ok-binder.ensures; vars = refl; stands = refl };
      rows = refl;
      few = refl;
    })
