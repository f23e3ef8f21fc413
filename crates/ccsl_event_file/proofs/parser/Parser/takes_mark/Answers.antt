use Rattle.ccsl_event_file.proofs.Ahead.{some}
use Rattle.ccsl_event_file.proofs.parser.Parser.takes_mark.Goals as goal

pub returns-in-Mark-clause-shorter : goal.returns-in-Mark-clause-shorter
returns-in-Mark-clause-shorter c = λ _. c.advance.ensures.shorter (some c.args.self.now.len c.args.self.now.rest.now _ c.in-Mark.ensures)
