use Rattle.ccsl_events.proofs.Whole.{whole-ends, whole-breaks, whole-rows, line-feed}
use Rattle.ccsl_events.proofs.laws.whole_body.Goals as goal

pub returns-clause-ends : goal.returns-clause-ends
returns-clause-ends c = whole-ends

pub returns-clause-breaks : goal.returns-clause-breaks
returns-clause-breaks c = whole-breaks

pub returns-clause-rows : goal.returns-clause-rows
returns-clause-rows c = whole-rows

pub returns-clause-line_feed : goal.returns-clause-line_feed
returns-clause-line_feed c = line-feed
