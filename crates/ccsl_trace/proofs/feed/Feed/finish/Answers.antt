use Rattle.std.proofs.Common.{ap, ◌∙◌, refl, arith}
use Rattle.std.specs.Prelude.{not}
use Rattle.ccsl_trace.specs.Feeding.{Feeding}
use Rattle.ccsl_trace.proofs.Running.{refused-it}
use Rattle.ccsl_trace.proofs.Ending.{ends-now, ends-late, finished, unshown, is-shown}
use Rattle.ccsl_trace.proofs.feed.Feed.finish.Goals as goal

pub returns-in-Err-clause-refuses : goal.returns-in-Err-clause-refuses
returns-in-Err-clause-refuses c = λ wanted limits bytes rows r.
    rw c.unread.ensures
    (refused-it wanted limits bytes _ rows (rw (← c.self.view_is) at r) c.in-Err.fault c.in-Err.ensures.calm
    (ap (λ (x : Feeding). x.pending) c.self.view_is ∙ c.requires.none) c.in-Err.ensures.refuses)

pub returns-then-late-clause-finishes : goal.returns-then-late-clause-finishes
returns-then-late-clause-finishes c = λ wanted limits bytes rows r.
    let s = rw (← c.self.view_is) at r in
    let none = ap (λ (x : Feeding). x.pending) c.self.view_is ∙ c.requires.none in
    rw (← c.self.view_is)
    (ends-late c.in-Ok.counts (omega arith) s (ap (λ (x : Feeding). x.handed) c.self.view_is ∙ c.requires.fresh) none
    (finished s none (c.in-Ok.ensures.accepts wanted s.taken s.stands) (c.in-Ok.ensures.pushes wanted s.taken s.stands)
    (c.in-Ok.ensures.counts wanted s.taken s.stands) (c.in-Ok.ensures.shows wanted s.taken s.stands))
    (unshown (λ x. x.now) c.bound.result _ c.bound.ensures.shows (c.is_none-late.ensures ∙ ap not c.if-late.true)) refl)

pub returns-clause-finishes : goal.returns-clause-finishes
returns-clause-finishes c = λ wanted limits bytes rows r.
    let s = rw (← c.self.view_is) at r in
    let none = ap (λ (x : Feeding). x.pending) c.self.view_is ∙ c.requires.none in
    let b = is-shown (λ x. x.now) c.bound.result _ c.bound.ensures.shows (c.is_none-late.ensures ∙ ap not c.if-late.false) in
    rw (← c.self.view_is)
    (ends-now c.in-Ok.counts (omega arith) s (ap (λ (x : Feeding). x.handed) c.self.view_is ∙ c.requires.fresh) none
    (finished s none (c.in-Ok.ensures.accepts wanted s.taken s.stands) (c.in-Ok.ensures.pushes wanted s.taken s.stands)
    (c.in-Ok.ensures.counts wanted s.taken s.stands) (c.in-Ok.ensures.shows wanted s.taken s.stands)) b.0 b.1)
