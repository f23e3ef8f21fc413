use Rattle.std.proofs.Common.{◌++◌, length, ap, refl, arith}
use Rattle.std.proofs.lemmas.Result.{err_from_is_err_and}
use Rattle.ccsl_vcd.specs.declared.limits.TheConstants.{LIMITS}
use Rattle.ccsl_events_top.proofs.Passing.{has-more, given-fits, fed-header, unfed-header}
use Rattle.ccsl_events_top.proofs.Bodies.{body-fits, fed-body, unfed-body}
use Rattle.ccsl_events_top.proofs.pass.Pass.feed.Goals as goal

pub returns-in_err-taken-clause-header : goal.returns-in_err-taken-clause-header
returns-in_err-taken-clause-header c told sink start now i =
    let q = err_from_is_err_and c.from_residual.result c.from_residual.ensures.1 in
    let more = has-more told sink start now c.args.self.now i.given _ i.passes c.requires in
    let fits = given-fits told sink start now c.args.self.now i.given _ i.passes more in
    rw (q.1, q.2)
    (unfed-header told sink start now c.args.self.now c.args.self.now i more c.in_err-taken.field-0.0
    (rw c.bytes.ensures.same at (c.in_err-taken.ensures.takes.heads LIMITS i.given i.among i.heading i.inside
    (omega (arith, fits, i.inside.taken, ap length c.bytes.ensures.same)))))

pub returns-in_err-taken-clause-body : goal.returns-in_err-taken-clause-body
returns-in_err-taken-clause-body c told sink start now plan head text i =
    let q = err_from_is_err_and c.from_residual.result c.from_residual.ensures.1 in
    let more = has-more told sink start now c.args.self.now (head ++ i.given) i.written i.passes c.requires in
    let fits = body-fits told sink start now plan head text c.args.self.now i more in
    rw (q.1, q.2)
    (unfed-body told sink start now plan head text c.args.self.now (record c.args.self.now { reader = c.feed.new.self; block = c.feed.new.out })
    c.in_err-taken.field-0.0 i more
    (rw c.bytes.ensures.same at (c.in_err-taken.ensures.takes.feeds plan (length head) i.given i.place i.taken
    (omega (arith, fits, ap length c.bytes.ensures.same)))))

pub returns-clause-header : goal.returns-clause-header
returns-clause-header c told sink start now i =
    let more = has-more told sink start now c.args.self.now i.given _ i.passes c.requires in
    let fits = given-fits told sink start now c.args.self.now i.given _ i.passes more in
    let within = rw c.bytes.ensures.same at c.in_ok-taken.ensures.takes.within in
    let fed = rw c.bytes.ensures.same at (c.in_ok-taken.ensures.takes.heads LIMITS i.given i.among i.heading i.inside
    (omega (arith, fits, i.inside.taken, ap length c.bytes.ensures.same))) in
    fed-header told sink start now c.args.self.now _ c.in_ok-taken.taken i more more refl c.take.ensures fed.1
    within.0 within.1 fed.0

pub returns-clause-body : goal.returns-clause-body
returns-clause-body c told sink start now plan head text i =
    let more = has-more told sink start now c.args.self.now (head ++ i.given) i.written i.passes c.requires in
    let fits = body-fits told sink start now plan head text c.args.self.now i more in
    let within = rw c.bytes.ensures.same at c.in_ok-taken.ensures.takes.within in
    fed-body told sink start now plan head text c.args.self.now _ c.in_ok-taken.taken i more more refl c.take.ensures
    within.0 within.1
    (rw c.bytes.ensures.same at (c.in_ok-taken.ensures.takes.feeds plan (length head) i.given i.place i.taken
    (omega (arith, fits, ap length c.bytes.ensures.same))))
