use Rattle.std.proofs.Common.{arith}
use Rattle.ccsl_events.proofs.Run.{step-takes}
use Rattle.ccsl_events.proofs.body.Body.step.Goals as goal

pub returns-clause-takes : goal.returns-clause-takes
returns-clause-takes c plan p s =
    step-takes plan p c.args.at c.in_ok-taken.taken c.args.bytes.now
    c.frequent.new.self c.token.new.self c.args.out.now.items c.frequent.new.out.items c.token.new.out.items c.token.result
    (omega (arith, c.if-taken-gt0.false)) (c.in_ok-taken.ensures.takes plan p s) (λ q t. c.token.ensures.takes plan q t)
