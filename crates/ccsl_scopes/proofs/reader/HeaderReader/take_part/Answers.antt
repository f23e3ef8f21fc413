use Rattle.ccsl_vcd_lex.specs.Tokens.{token}
use Rattle.ccsl_scopes.proofs.HoldLaws.{third-extends}
use Rattle.ccsl_scopes.proofs.reader.HeaderReader.take_part.Goals as goal

pub returns-in-2-clause-parts : goal.returns-in-2-clause-parts
returns-in-2-clause-parts c limits h head words s n =
    third-extends limits h head words (token c.args.at c.args.text.now) c.args.self.now c.take_code.new.self c.take_code.result c.in-2.is s n
    c.take_code.ensures.fits c.take_code.ensures.known c.take_code.ensures.number c.take_code.ensures.variables
    c.take_code.ensures.timescale c.take_code.ensures.kept c.take_code.ensures.refused
