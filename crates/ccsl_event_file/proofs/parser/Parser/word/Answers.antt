use Rattle.ccsl_event_file.proofs.Ahead.{some}
use Rattle.ccsl_event_file.proofs.parser.Parser.word.Goals as goal

pub returns-in-Word-clause-shorter : goal.returns-in-Word-clause-shorter
returns-in-Word-clause-shorter c = c.advance.ensures.shorter (some c.args.self.now.len c.args.self.now.rest.now _ c.in-Word.ensures)
