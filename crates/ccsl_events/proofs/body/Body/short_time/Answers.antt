use Rattle.std.proofs.lemmas.Result.{err_from_is_err_and}
use Rattle.ccsl_events.proofs.Run.{runs-none}
use Rattle.ccsl_events.proofs.Quick.{time-runs, time-breaks}
use Rattle.ccsl_events.proofs.body.Body.short_time.Goals as goal

pub returns-in_default-clause-takes : goal.returns-in_default-clause-takes
returns-in_default-clause-takes c plan p s a = runs-none plan p c.args.at c.args.self.now c.args.out.now.items s

pub returns-in_err-front_time-clause-takes : goal.returns-in_err-front_time-clause-takes
returns-in_err-front_time-clause-takes c plan p s a =
    let digits = c.in-Some.digits in
    let q = err_from_is_err_and c.from_residual.result c.from_residual.ensures.1 in
    rw (q.1, q.2)
    (time-breaks plan p c.args.self.now c.front_time.new.self c.args.at digits.count digits.time c.args.bytes.now c.in_err-front_time.field-0.0
    c.args.out.now.items c.front_time.new.out.items s a c.in-Some.ensures (c.in_err-front_time.ensures plan p s))

pub returns-clause-takes : goal.returns-clause-takes
returns-clause-takes c plan p s a =
    let digits = c.in-Some.digits in
    time-runs plan p c.args.self.now c.front_time.new.self c.args.at digits.count digits.time c.args.bytes.now
    c.args.out.now.items c.front_time.new.out.items s a c.in-Some.ensures (c.in_ok-front_time.ensures plan p s)
