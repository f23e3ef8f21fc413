use Rattle.std.proofs.Common.{Ok, ap, ◌∙◌, subst, refl, rules}
use Rattle.std.proofs.lemmas.Result.{err_from_is_err_and}
use Rattle.ccsl_trace.specs.Feeding.{Feeding, bound_of, Gives, GivesBound}
use Rattle.ccsl_trace.proofs.Ending.{nears-finish}
use Rattle.ccsl_trace.proofs.Stepping.{runs-of, gives-rows, gives-bound, refuses-on, refuses-end, gives-finish}
use Rattle.ccsl_trace.proofs.feed.Feed.step.Goals as goal

pub returns-then-is_full-clause-gives : goal.returns-then-is_full-clause-gives
returns-then-is_full-clause-gives g c = λ wanted limits start rows f.
    rw (← c.self.view_is)
    (gives-rows (rw (← c.self.view_is) at f) _ (ap (λ (x : Feeding). x.ended) c.self.view_is ∙ c.requires.ended)
    (ap (λ (x : Feeding). x.handed) c.self.view_is ∙ c.requires.fresh) (c.is_full.ensures.full.0 c.if-is_full.true) refl)

pub returns-in_err-refill-clause-unread : goal.returns-in_err-refill-clause-unread
returns-in_err-refill-clause-unread g c =
    let p = err_from_is_err_and c.from_residual.result c.from_residual.ensures.1 in
    rw (p.1, p.2, c.in_err-refill.ensures.fault) c.in_err-refill.ensures.fails

pub returns-in_err-finish-clause-unread : goal.returns-in_err-finish-clause-unread
returns-in_err-finish-clause-unread g c =
    let p = err_from_is_err_and c.from_residual-in_err-finish.result c.from_residual-in_err-finish.ensures.1 in
    rw (p.1, p.2) (λ wanted limits start rows f.
    let n = c.in_ok-refill.ensures.feeds wanted limits start rows f in
    let e = ap (λ (x : Feeding). x.ended) c.refill.ensures.kept ∙ c.requires.ended in
    refuses-end n (c.in_ok-refill.ensures.left c.if-not-branch.true) _ (c.in_err-finish.ensures.refuses wanted limits n.bytes rows (runs-of n e)))

pub returns-then-not-branch-clause-gives : goal.returns-then-not-branch-clause-gives
returns-then-not-branch-clause-gives g c = λ wanted limits start rows f.
    let n = c.in_ok-refill.ensures.feeds wanted limits start rows f in
    let e = ap (λ (x : Feeding). x.ended) c.refill.ensures.kept ∙ c.requires.ended in
    subst (λ o. Gives g.W.World.told wanted limits start (g.W.World.state c.refill.new.world) c.in_ok-finish.field-0 o c.finish.new.self rows)
    (ap bound_of c.refill.ensures.kept)
    (gives-finish n (c.in_ok-refill.ensures.left c.if-not-branch.true) c.in_ok-finish.field-0 (bound_of c.refill.new.self) c.finish.new.self
    (c.in_ok-finish.ensures.finishes wanted limits n.bytes rows (runs-of n e)))

pub returns-then-not-branch-clause-nears : goal.returns-then-not-branch-clause-nears
returns-then-not-branch-clause-nears g c =
    let w = c.requires.feeds in
    let n = c.in_ok-refill.ensures.feeds w.0 w.1 w.2 w.3 w.4 in
    let e = ap (λ (x : Feeding). x.ended) c.refill.ensures.kept ∙ c.requires.ended in
    nears-finish w.0 w.1 n.bytes (bound_of c.refill.new.self) c.args.self.now c.finish.new.self w.3 c.in_ok-finish.field-0 c.requires.ended
    (c.in_ok-finish.ensures.finishes w.0 w.1 n.bytes w.3 (runs-of n e))

pub pass-requires-clause-runs : goal.pass-requires-clause-runs
pass-requires-clause-runs g c =
    let w = c.requires.feeds in
    let f = c.in_ok-refill.ensures.feeds w.0 w.1 w.2 w.3 w.4 in
    (w.0, w.1, f.bytes, w.3, runs-of f (ap (λ (x : Feeding). x.ended) c.refill.ensures.kept ∙ c.requires.ended))

pub returns-in_err-pass-clause-unread : goal.returns-in_err-pass-clause-unread
returns-in_err-pass-clause-unread g c =
    let p = err_from_is_err_and c.from_residual-in_err-pass.result c.from_residual-in_err-pass.ensures.1 in
    rw (p.1, p.2) (λ wanted limits start rows f.
    let n = c.in_ok-refill.ensures.feeds wanted limits start rows f in
    let e = ap (λ (x : Feeding). x.ended) c.refill.ensures.kept ∙ c.requires.ended in
    refuses-on n _ (c.in_err-pass.ensures.refuses wanted limits n.bytes rows (runs-of n e)))

pub returns-then-branch-clause-gives : goal.returns-then-branch-clause-gives
returns-then-branch-clause-gives g c = λ wanted limits start rows f.
    let n = c.in_ok-refill.ensures.feeds wanted limits start rows f in
    let e = ap (λ (x : Feeding). x.ended) c.refill.ensures.kept ∙ c.requires.ended in
    let r = runs-of n e in
    let t = rw c.if-branch.true at c.in_ok-pass.ensures.turns in
    subst (λ o. GivesBound g.W.World.told wanted limits start (g.W.World.state c.refill.new.world) o c.pass.new.self rows) (ap bound_of c.refill.ensures.kept)
    (gives-bound n c.pass.new.self t.1 e (c.pass.ensures.ended ∙ e) t.0 t.2
    (c.in_ok-pass.ensures.near (ap Ok c.if-branch.true) wanted limits n.bytes rows r) (c.in_ok-pass.ensures.runs wanted limits n.bytes rows r))

pub returns-clause-goes_on : goal.returns-clause-goes_on
returns-clause-goes_on c = search rules

pub returns-then-is_full-clause-nears : goal.returns-then-is_full-clause-nears
returns-then-is_full-clause-nears c = search rules
