use Rattle.ccsl_event_file.specs.Fronts.{seen}
use Rattle.ccsl_event_file.proofs.Ahead.{next}
use Rattle.ccsl_event_file.proofs.parser.Parser.peek.Goals as goal

pub returns : goal.returns
returns c =
    next c.args.self.now.len c.args.self.now.rest.now c.token_at_front.result.1.now (seen c.token_at_front.result.0) c.args.self.now.bare
    c.token_at_front.ensures.front
