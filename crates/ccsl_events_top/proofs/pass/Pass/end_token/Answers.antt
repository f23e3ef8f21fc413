use Rattle.std.proofs.Common.{true, length, refl, arith}
use Rattle.std.proofs.lemmas.Result.{err_from_is_err_and}
use Rattle.ccsl_vcd.specs.declared.limits.TheConstants.{LIMITS}
use Rattle.ccsl_events_top.proofs.Passing.{given-fits, fed-end, unfed-end}
use Rattle.ccsl_events_top.proofs.Bodies.{body-fits, fed-body-end, unfed-body-end}
use Rattle.ccsl_events_top.proofs.pass.Pass.end_token.Goals as goal

pub returns-in_err-feed-clause-header : goal.returns-in_err-feed-clause-header
returns-in_err-feed-clause-header c told sink start now i a =
    let q = err_from_is_err_and c.from_residual.result c.from_residual.ensures.1 in
    let fits = given-fits told sink start now c.args.self.now i.given _ i.passes c.requires.goes_on in
    rw (q.1, q.2)
    (unfed-end told sink start now c.args.self.now
    (record c.args.self.now { has_ended = true; reader = c.feed.new.self; block = c.feed.new.out }) c.in_err-feed.field-0.0 i a c.requires.goes_on refl refl
    refl
    (c.in_err-feed.ensures.takes.heads LIMITS i.given i.among i.heading i.inside (omega (arith, fits, i.inside.taken))))

pub returns-in_err-feed-clause-body : goal.returns-in_err-feed-clause-body
returns-in_err-feed-clause-body c told sink start now plan head text i a =
    let q = err_from_is_err_and c.from_residual.result c.from_residual.ensures.1 in
    let fits = body-fits told sink start now plan head text c.args.self.now i c.requires.goes_on in
    rw (q.1, q.2)
    (unfed-body-end told sink start now plan head text c.args.self.now
    (record c.args.self.now { has_ended = true; reader = c.feed.new.self; block = c.feed.new.out }) c.in_err-feed.field-0.0 i a c.requires.goes_on refl refl
    refl
    (c.in_err-feed.ensures.takes.feeds plan (length head) i.given i.place i.taken (omega (arith, fits))))

pub returns-clause-header : goal.returns-clause-header
returns-clause-header c told sink start now i a =
    let fits = given-fits told sink start now c.args.self.now i.given _ i.passes c.requires.goes_on in
    let fed = c.in_ok-feed.ensures.takes.heads LIMITS i.given i.among i.heading i.inside (omega (arith, fits, i.inside.taken)) in
    fed-end told sink start now c.args.self.now _ c.in_ok-feed.field-0 i a c.requires.goes_on refl refl refl fed.1
    c.in_ok-feed.ensures.takes.within.0 c.in_ok-feed.ensures.takes.within.1 fed.0

pub returns-clause-body : goal.returns-clause-body
returns-clause-body c told sink start now plan head text i a =
    let fits = body-fits told sink start now plan head text c.args.self.now i c.requires.goes_on in
    fed-body-end told sink start now plan head text c.args.self.now _ c.in_ok-feed.field-0 i a c.requires.goes_on refl refl refl
    c.in_ok-feed.ensures.takes.within.0 c.in_ok-feed.ensures.takes.within.1
    (c.in_ok-feed.ensures.takes.feeds plan (length head) i.given i.place i.taken (omega (arith, fits)))
