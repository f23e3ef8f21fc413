use Rattle.std.proofs.Common.{◌≡◌, ◌<◌, true, ap, ◌∙◌, subst, arith}
use Rattle.std.proofs.lemmas.Grind.{common_steps}
use Rattle.ccsl_trace.specs.Feeding.{Feeding, bound_of, left_of}
use Rattle.ccsl_trace.specs.Stepping.{Turns}
use Rattle.ccsl_trace.proofs.Refusing.{never-memory}
use Rattle.ccsl_trace.proofs.Running.{comes-closer, turns, near, calm-bound, refused-all}
use Rattle.ccsl_trace.proofs.feed.Feed.pass.Goals as goal

pub returns-in-Err-clause-refuses : goal.returns-in-Err-clause-refuses
returns-in-Err-clause-refuses c = λ wanted limits bytes rows r.
    rw c.unread.ensures
    (refused-all wanted limits bytes _ rows (rw (← c.self.view_is) at r) c.in-Err.fault c.in-Err.ensures.calm
    (rw c.bytes.ensures.same at c.in-Err.ensures.refuses))

pub returns-in-Err-clause-calm : goal.returns-in-Err-clause-calm
returns-in-Err-clause-calm c =
    let w = c.requires.runs in
    let s = rw (← c.self.view_is) at w.4 in
    never-memory _ _ c.in-Err.fault _ c.unread.ensures
    (λ bound e. calm-bound w.0 w.1 w.2 _ w.3 s c.in-Err.fault c.in-Err.ensures.calm bound (ap bound_of c.self.view_is ∙ e))

pub returns-clause-closer : goal.returns-clause-closer
returns-clause-closer c =
    let w = c.requires.runs in
    let s = rw (← c.self.view_is) at w.4 in
    let fresh = ap (λ (x : Feeding). x.handed) c.self.view_is ∙ c.requires.fresh in
    let some = rw (← c.self.view_is) at c.requires.some in
    let new : Feeding = record {
      reading = c.feed.new.self;
      pending = c.take.new.self;
      block = c.feed.new.out;
      handed = c.self.inside.handed;
      ended =
          c.self.inside.ended;
    } in
    subst (λ (x : Feeding). left_of new < left_of x) c.self.view_is
    (comes-closer w.0 w.1 w.2 _ w.3 s new c.in-Ok.taken.bytes fresh c.feed.ensures.limits c.in-Ok.ensures.runs.0
    (rw c.bytes.ensures.same at (c.in-Ok.ensures.stands w.0 s.taken s.stands)) some
    (c.in-Ok.ensures.moves (rw c.bytes.ensures.same some)))

pub returns-clause-turns : goal.returns-clause-turns
returns-clause-turns c =
    let w = c.requires.runs in
    let s = rw (← c.self.view_is) at w.4 in
    let fresh = ap (λ (x : Feeding). x.handed) c.self.view_is ∙ c.requires.fresh in
    let new : Feeding = record {
      reading = c.feed.new.self;
      pending = c.take.new.self;
      block = c.feed.new.out;
      handed = c.self.inside.handed;
      ended =
          c.self.inside.ended;
    } in
    subst (λ (x : Feeding). Turns c.in-Ok.taken.header_ended (bound_of x) (bound_of new)) c.self.view_is
    (turns w.0 w.1 w.2 _ w.3 s new c.in-Ok.taken.bytes fresh c.feed.ensures.limits c.in-Ok.ensures.runs.0
    (rw c.bytes.ensures.same at (c.in-Ok.ensures.stands w.0 s.taken s.stands)) c.in-Ok.taken.header_ended
    (rw c.bytes.ensures.same at (c.in-Ok.ensures.header w.0 s.taken s.stands)))

pub returns-clause-near : goal.returns-clause-near
returns-clause-near c = λ e wanted limits bytes rows r.
    let s = rw (← c.self.view_is) at r in
    let ended : c.in-Ok.taken.header_ended ≡ true = cc e in
    near wanted limits bytes _ rows s c.in-Ok.taken.bytes (rw (c.bytes.ensures.same, ended) at (c.in-Ok.ensures.header wanted s.taken s.stands))

pub returns-clause-runs : goal.returns-clause-runs
returns-clause-runs c = grind (arith, common_steps)
