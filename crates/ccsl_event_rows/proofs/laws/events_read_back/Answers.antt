use Rattle.ccsl_event_rows.proofs.ReadBack.{events-read-back, fronts-read-back, rows-are-times, times-are-counted}
use Rattle.ccsl_event_rows.proofs.laws.events_read_back.Goals as goal

pub returns-clause-whole : goal.returns-clause-whole
returns-clause-whole c = events-read-back

pub returns-clause-front : goal.returns-clause-front
returns-clause-front c = fronts-read-back

pub returns-clause-times : goal.returns-clause-times
returns-clause-times c = rows-are-times

pub returns-clause-count : goal.returns-clause-count
returns-clause-count c = times-are-counted
