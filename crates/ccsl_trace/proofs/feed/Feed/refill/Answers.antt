use Rattle.std.proofs.Common.{ap, ◌∙◌, refl, rules}
use Rattle.std.proofs.lemmas.Bool.{not-false}
use Rattle.ccsl_trace.specs.Feeding.{Feeding}
use Rattle.ccsl_trace.proofs.Stepping.{refilled, none-left}
use Rattle.ccsl_trace.proofs.feed.Feed.refill.Goals as goal

pub returns-clause-feeds : goal.returns-clause-feeds
returns-clause-feeds g c = λ wanted limits start rows f.
    refilled (rw (← c.self.view_is) at f) (g.W.World.state c.refill.new.world) _ _ (ap (λ (x : Feeding). x.ended) c.self.view_is ∙ c.requires.ended)
    (c.is_empty.ensures.0 c.if-not-is_empty.false) refl c.in-Ok.ensures.ok

pub returns-clause-left : goal.returns-clause-left
returns-clause-left g c = λ empty tells. none-left _ _ _ _ _ c.in-Ok.ensures.ok (c.is_empty-2.ensures.0 (not-false c.is_empty-2.result empty)) tells

pub returns-clause-none : goal.returns-clause-none
returns-clause-none g c = λ empty. c.is_empty-2.ensures.0 (not-false c.is_empty-2.result empty)

pub returns-in-Err-clause-none : goal.returns-in-Err-clause-none
returns-in-Err-clause-none g c = search rules

pub returns-in-Err-clause-left : goal.returns-in-Err-clause-left
returns-in-Err-clause-left g c = search rules

pub returns-in-Err-clause-feeds : goal.returns-in-Err-clause-feeds
returns-in-Err-clause-feeds g c = search rules
