use Rattle.ccsl_parse.proofs.Places.{last_at}
use Rattle.ccsl_parse.proofs.parser.last_end.Goals as goal

pub returns-in-Some : goal.returns-in-Some
returns-in-Some c = last_at c.args.tokens.now c.in-Some.token.now c.in-Some.ensures.value
