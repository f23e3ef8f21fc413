use Rattle.std.proofs.Common.{refl}
use Rattle.ccsl_top.proofs.Checking.{check-answers, check-stops}
use Rattle.ccsl_top.proofs.Judging.{judge-replies, judge-stops}
use Rattle.ccsl_top.proofs.Simulated.{simulate-answers, simulate-stops}
use Rattle.ccsl_top.proofs.Certifying.{certify-answers, certify-stops}
use Rattle.ccsl_top.proofs.Explained.{explain-answers, explain-stops}
use Rattle.ccsl_top.proofs.program.answer_on.Goals as goal

pub returns-in-Check-clause-ok : goal.returns-in-Check-clause-ok
returns-in-Check-clause-ok g c =
    rw c.in-Check.is
    (λ start b. check-answers g.W.World.told _ start _ b.reads c.args.system.now (b.system _ refl) c.check.result c.check.ensures.reply)

pub returns-in-Check-clause-err : goal.returns-in-Check-clause-err
returns-in-Check-clause-err g c =
    rw c.in-Check.is
    (λ start b. check-stops g.W.World.told _ start _ b.reads c.check.result c.check.ensures.stop)

pub returns-in-Judge-clause-ok : goal.returns-in-Judge-clause-ok
returns-in-Judge-clause-ok g c =
    rw c.in-Judge.is
    (λ start b. judge-replies g.W.World.told _ c.in-Judge.trace c.in-Judge.workers start _ b.reads c.args.system.now (b.system _ refl)
    (g.W.World.state c.judge.new.world) c.judge.result c.judge.ensures.reads c.judge.ensures.status (rw c.as_str.ensures at c.judge.ensures.outcome))

pub returns-in-Judge-clause-err : goal.returns-in-Judge-clause-err
returns-in-Judge-clause-err g c =
    rw c.in-Judge.is
    (λ start b. judge-stops g.W.World.told _ c.in-Judge.trace c.in-Judge.workers start _ b.reads c.args.system.now (b.system _ refl)
    (g.W.World.state c.judge.new.world) c.judge.result (rw c.as_str.ensures at c.judge.ensures.stop))

pub returns-in-Simulate-clause-ok : goal.returns-in-Simulate-clause-ok
returns-in-Simulate-clause-ok g c =
    rw c.in-Simulate.is
    (λ start b. simulate-answers g.W.World.told _ c.in-Simulate.policy c.in-Simulate.seed c.in-Simulate.steps c.in-Simulate.trace c.in-Simulate.cert start _
    (g.W.World.state c.simulate.new.world) b.reads c.args.system.now (b.system _ refl) _ c.policy_named-policy.ensures c.simulate.result
    (rw (c.as_str-in-Simulate.ensures, c.as_str-in-Simulate-2.ensures) at c.simulate.ensures.answers))

pub returns-in-Simulate-clause-err : goal.returns-in-Simulate-clause-err
returns-in-Simulate-clause-err g c =
    rw c.in-Simulate.is
    (λ start b. simulate-stops g.W.World.told _ c.in-Simulate.policy c.in-Simulate.seed c.in-Simulate.steps c.in-Simulate.trace c.in-Simulate.cert start _
    (g.W.World.state c.simulate.new.world) b.reads c.args.system.now (b.system _ refl) _ c.policy_named-policy.ensures c.simulate.result
    (rw (c.as_str-in-Simulate.ensures, c.as_str-in-Simulate-2.ensures) at c.simulate.ensures.stop))

pub returns-in-Certify-clause-ok : goal.returns-in-Certify-clause-ok
returns-in-Certify-clause-ok g c =
    rw c.in-Certify.is
    (λ start b. certify-answers g.W.World.told _ c.in-Certify.trace c.in-Certify.cert start _ b.reads c.args.system.now (b.system _ refl)
    (g.W.World.state c.certify.new.world) c.certify.result (rw (c.as_str-in-Certify.ensures, c.as_str-in-Certify-2.ensures) at c.certify.ensures.answers))

pub returns-in-Certify-clause-err : goal.returns-in-Certify-clause-err
returns-in-Certify-clause-err g c =
    rw c.in-Certify.is
    (λ start b. certify-stops g.W.World.told _ c.in-Certify.trace c.in-Certify.cert start _ b.reads c.args.system.now (b.system _ refl)
    (g.W.World.state c.certify.new.world) c.certify.result c.certify.ensures.stop)

pub returns-in-Explain-clause-ok : goal.returns-in-Explain-clause-ok
returns-in-Explain-clause-ok g c =
    rw c.in-Explain.is
    (λ start b. explain-answers g.W.World.told _ c.in-Explain.trace c.in-Explain.cert start _ b.reads c.args.system.now (b.system _ refl)
    (g.W.World.state c.explain.new.world) c.explain.result (rw (c.as_str-in-Explain.ensures, c.as_str-in-Explain-2.ensures) at c.explain.ensures.answers))

pub returns-in-Explain-clause-err : goal.returns-in-Explain-clause-err
returns-in-Explain-clause-err g c =
    rw c.in-Explain.is
    (λ start b. explain-stops g.W.World.told _ c.in-Explain.trace c.in-Explain.cert start _ b.reads c.args.system.now (b.system _ refl)
    (g.W.World.state c.explain.new.world) c.explain.result (rw (c.as_str-in-Explain.ensures, c.as_str-in-Explain-2.ensures) at c.explain.ensures.stop))
