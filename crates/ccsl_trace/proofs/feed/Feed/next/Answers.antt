use Rattle.std.proofs.Common.{sym, ap, ◌∙◌}
use Rattle.ccsl_trace.specs.Feeding.{Feeding}
use Rattle.ccsl_trace.proofs.Stepping.{ends-after}
use Rattle.ccsl_trace.proofs.feed.Feed.next.Goals as goal

pub returns-in-Some-clause-gives : goal.returns-in-Some-clause-gives
returns-in-Some-clause-gives g c = λ wanted limits start rows f.
    ends-after f c.in-Some.counts (sym (ap (λ (x : Feeding). x.ended) c.self.view_is) ∙ c.in-Some.is)

pub step-requires-clause-feeds : goal.step-requires-clause-feeds
step-requires-clause-feeds g c =
    let w = c.requires.feeds in
    (w.0, w.1, w.2, w.3, c.loop-next.invariant.feeds w.0 w.1 w.2 w.3 w.4)

pub returns-in-Err-clause-unread : goal.returns-in-Err-clause-unread
returns-in-Err-clause-unread g c = λ wanted limits start rows f.
    c.in-Err.ensures.unread wanted limits start rows (c.loop-next.invariant.feeds wanted limits start rows f)
