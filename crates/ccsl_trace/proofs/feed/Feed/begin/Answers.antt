use Rattle.std.proofs.Common.{arith, refl}
use Rattle.ccsl_bind.specs.Collected.{wanted_of}
use Rattle.ccsl_trace.proofs.Stepping.{opened, unbound}
use Rattle.ccsl_trace.proofs.feed.Feed.begin.Goals as goal

pub returns-clause-unbound : goal.returns-clause-unbound
returns-clause-unbound c = unbound (wanted_of c.args.system.now) c.in_ok-reader.reader c.in_ok-reader.ensures.runs c.in_ok-reader.ensures.stands

pub returns-clause-feeds : goal.returns-clause-feeds
returns-clause-feeds c = λ told now.
    opened told (wanted_of c.args.system.now) c.args.limits now _ (omega arith) c.in_ok-pending.ensures c.in_ok-block.ensures refl c.in_ok-reader.ensures.limits
    c.in_ok-reader.ensures.runs c.in_ok-reader.ensures.stands
