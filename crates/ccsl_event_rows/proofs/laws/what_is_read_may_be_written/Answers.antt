use Rattle.ccsl_event_rows.proofs.Planned.{names-read, plan-length}
use Rattle.ccsl_event_rows.proofs.Timescales.{timescale-read}
use Rattle.ccsl_event_rows.proofs.laws.what_is_read_may_be_written.Goals as goal

pub returns : goal.returns
returns c = λ file dump es limits heading at vs codes skips plan named ends means. record {
  event_names = names-read file es named;
  watches = plan-length es vs codes skips plan means;
  scale = timescale-read limits dump heading at ends;
}
