use Rattle.ccsl_grammar.specs.Terminals.{terminals}
use Rattle.ccsl_grammar.specs.Reader.{stopped, no_syntax, too_deep}
use Rattle.ccsl_parse.proofs.Places.{said, left_fits, syntax_at, too_deep_at}
use Rattle.ccsl_parse.proofs.parser.fault.Goals as goal

pub place-requires : goal.place-requires
place-requires c =
    let v = said c.args.tokens.now (stopped no_syntax (terminals c.in-Syntax.rest.now)) (rw c.in-Syntax.is at c.requires) in
    left_fits c.args.tokens.now c.in-Syntax.rest.now v.0 v.1

pub place-requires-in-TooDeep : goal.place-requires-in-TooDeep
place-requires-in-TooDeep c =
    let v = said c.args.tokens.now (stopped too_deep (terminals c.in-TooDeep.rest.now)) (rw c.in-TooDeep.is at c.requires) in
    left_fits c.args.tokens.now c.in-TooDeep.rest.now v.0 v.1

pub returns-in-Syntax : goal.returns-in-Syntax
returns-in-Syntax c = syntax_at c.args.tokens.now c.in-Syntax.rest.now c.place.result (rw c.in-Syntax.is at c.requires) c.place.ensures

pub returns-in-TooDeep : goal.returns-in-TooDeep
returns-in-TooDeep c = too_deep_at c.args.tokens.now c.in-TooDeep.rest.now c.place-in-TooDeep.result (rw c.in-TooDeep.is at c.requires)
    c.place-in-TooDeep.ensures
