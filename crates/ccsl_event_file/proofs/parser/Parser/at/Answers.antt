use Rattle.ccsl_event_file.proofs.Ahead.{place}
use Rattle.ccsl_event_file.proofs.parser.Parser.at.Goals as goal

pub returns : goal.returns
returns c = place c.args.self.now.len c.args.self.now.rest.now c.args.self.now.bare
