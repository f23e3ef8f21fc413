use Rattle.ccsl_event_file.specs.Fronts.{seen}
use Rattle.ccsl_event_file.proofs.Ahead.{later}
use Rattle.ccsl_event_file.proofs.parser.Parser.advance.Goals as goal

pub returns-clause-ahead : goal.returns-clause-ahead
returns-clause-ahead c =
    later c.args.self.now.len c.args.self.now.rest.now c.token_at_front.result.1.now c.skip_blank-self.result.now (seen c.token_at_front.result.0)
    c.args.self.now.bare c.token_at_front.ensures.front c.skip_blank-self.ensures
