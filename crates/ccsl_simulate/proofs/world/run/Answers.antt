use Rattle.std.proofs.Common.{ℕ, inl, refl, arith, add-one}
use Rattle.std.proofs.lemmas.Result.{err_from_is_err_and}
use Rattle.ccsl_vcd_write.specs.Text.{step_text}
use Rattle.ccsl_simulate.specs.Going.{Stands, WritesStep, WritesLines, TurnFails}
use Rattle.ccsl_simulate.proofs.Standing.{same-task, run-size, of-task}
use Rattle.ccsl_simulate.proofs.Writing.{trace-open, cert-open, header-fails, header-adds, full-there, step-adds, ends-there, undone-there}
use Rattle.ccsl_simulate.proofs.world.run.Goals as goal

pub returns-in_err-write_all-clause-undone : goal.returns-in_err-write_all-clause-undone
returns-in_err-write_all-clause-undone g c =
    let p = err_from_is_err_and c.from_residual.result c.from_residual.ensures.1 in
    let sim = c.args.sim.now in
    rw (p.1, p.2)
    (λ seed s. inl (header-fails sim.system.now sim.policy seed c.args.steps (rw (c.deref.ensures.value, c.requires.header) at c.in_err-write_all.ensures.err)))

pub loop-n-init : goal.loop-n-init
loop-n-init g c =
    let sim = c.args.sim.now in
    let q = c.in_ok-write_all.ensures.ok in
    record {
      task = record { system = refl; policy = refl };
      trace = trace-open q c.requires.trace;
      cert = cert-open q c.requires.cert;
      stands = λ seed s. s;
      adds = λ seed s. header-adds sim.system.now sim.policy seed c.args.steps (rw (c.deref.ensures.value, c.requires.header) at q);
    }

pub turn-requires-clause-stands : goal.turn-requires-clause-stands
turn-requires-clause-stands g c = let w = c.requires.stands in (w.0, c.loop-n.invariant.stands w.0 w.1)

pub returns-in_err-turn-clause-undone : goal.returns-in_err-turn-clause-undone
returns-in_err-turn-clause-undone g c =
    let r = c.from_residual-in_err-turn in
    let p = err_from_is_err_and r.result r.ensures.1 in
    let fault = c.in_err-turn.field-0.0 in
    let old = c.args.sim.now in
    let n = c.loop-n.n in
    let after = g.W.World.state c.turn.new.world in
    let task = c.loop-n.invariant.task in
    rw (p.1, p.2)
    (λ seed s.
    let stands = c.loop-n.invariant.stands seed s in
    undone-there old.system.now old.policy seed c.args.steps n c.loop-n-test.true (run-size task stands) (c.loop-n.invariant.adds seed s) after fault
    (of-task (λ K policy. TurnFails g.W.World.told K policy seed n (g.W.World.state c.loop-n.world) after fault) task
    (c.in_err-turn.ensures.fails seed stands)))

pub returns-in-Ends-clause-done : goal.returns-in-Ends-clause-done
returns-in-Ends-clause-done g c = λ seed s.
    let old = c.args.sim.now in
    let n = c.loop-n.n in
    let after = g.W.World.state c.turn.new.world in
    let task = c.loop-n.invariant.task in
    let stands = c.loop-n.invariant.stands seed s in
    ends-there old.system.now old.policy seed c.args.steps n c.loop-n-test.true (run-size task stands) (c.loop-n.invariant.adds seed s) after
    (of-task (λ K policy. WritesLines g.W.World.told K policy seed n (g.W.World.state c.loop-n.world) after) task
    (rw c.in-Ends.is at c.in_ok-turn.ensures.does seed stands))

pub loop-n-preserved : goal.loop-n-preserved
loop-n-preserved g c =
    let old = c.args.sim.now in
    let n = c.loop-n.n in
    let before = g.W.World.state c.loop-n.world in
    let after = g.W.World.state c.turn.new.world in
    let task = c.loop-n.invariant.task in
    let writes : (seed : ℕ) → Stands seed 0 old → WritesStep g.W.World.told old.system.now old.policy seed n before after = λ seed s.
    of-task (λ K policy. WritesStep g.W.World.told K policy seed n before after) task
    (rw c.in-Goes.is at c.in_ok-turn.ensures.does seed (c.loop-n.invariant.stands seed s)) in
    let w = c.requires.stands in
    let q = writes w.0 w.1 in
    record {
      task = same-task task c.turn.ensures.task;
      trace = trace-open {bytes = step_text n old.system.now q.step} q.adds c.loop-n.invariant.trace;
      cert = cert-open {bytes = step_text n old.system.now q.step} q.adds c.loop-n.invariant.cert;
      stands = λ seed s. rw (add-one n) (c.in_ok-turn.ensures.stands seed c.in-Goes.is (c.loop-n.invariant.stands seed s));
      adds = λ seed s. rw (add-one n)
          (step-adds old.system.now old.policy seed c.args.steps n c.loop-n-test.true (run-size task (c.loop-n.invariant.stands seed s))
          (c.loop-n.invariant.adds seed s) after (writes seed s));
    }

pub returns-clause-done : goal.returns-clause-done
returns-clause-done g c = λ seed s.
    full-there c.args.sim.now.system.now c.args.sim.now.policy seed c.args.steps c.loop-n.n (omega arith)
    (run-size c.loop-n.invariant.task (c.loop-n.invariant.stands seed s)) (c.loop-n.invariant.adds seed s)
