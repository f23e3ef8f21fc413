use Rattle.std.proofs.Common.{rules}
use Rattle.std.proofs.lemmas.Result.{err_from_is_err_and}
use Rattle.ccsl_top.proofs.Existing.{certificate}
use Rattle.ccsl_top.proofs.Simulating.{Ending, unopened-fails, undone-stops, unclosed-fails, half-closed-fails, both-written}
use Rattle.ccsl_top.proofs.simulate.write_run.Given as given
use Rattle.ccsl_top.proofs.simulate.write_run.Goals as goal
use Rattle.ccsl_top.proofs.simulate.write_run.Goals.{After-is_accepted}

ending : (g : given.Over) (c : After-is_accepted g)
    → Ending g.W.World.told c.args.system.now c.args.policy c.args.seed c.args.steps c.args.trace.now c.args.cert.now
ending g c =
    let e = certificate c.args.system.now c.args.policy (c.simulation_is_one.ensures c.args.system.now c.args.policy)
    (c.deadlocks_have_certificates.ensures c.args.system.now c.is_accepted.ensures) c.args.seed c.args.steps in
    record { bytes = e.0; valid = e.1 }

pub returns-in_err-open_out-2-clause-stop : goal.returns-in_err-open_out-2-clause-stop
returns-in_err-open_out-2-clause-stop g c =
    let p = err_from_is_err_and c.from_residual-in_err-open_out-2.result c.from_residual-in_err-open_out-2.ensures.1 in
    rw (p.1, p.2)
    (unopened-fails (ending g (goal.at.returns-in_err-open_out-2-clause-stop g c).After-is_accepted) c.in_ok-open_out.ensures.ok
    c.in_err-open_out-2.ensures.err)

pub returns-in_err-done-clause-stop : goal.returns-in_err-done-clause-stop
returns-in_err-done-clause-stop g c =
    let p = err_from_is_err_and c.from_residual-in_err-done.result c.from_residual-in_err-done.ensures.1 in
    rw (p.1, p.2)
    (undone-stops (ending g (goal.at.returns-in_err-done-clause-stop g c).After-is_accepted) c.in_ok-open_out.ensures.ok
    c.in_ok-open_out-2.ensures.ok (g.W.World.state c.simulate.new.world) c.in_err-done.field-0.0 c.in_err-done.ensures.undone)

pub returns-in_err-close_out-clause-stop : goal.returns-in_err-close_out-clause-stop
returns-in_err-close_out-clause-stop g c =
    let p = err_from_is_err_and c.from_residual-in_err-close_out.result c.from_residual-in_err-close_out.ensures.1 in
    rw (p.1, p.2)
    (unclosed-fails (ending g (goal.at.returns-in_err-close_out-clause-stop g c).After-is_accepted) c.in_ok-open_out.ensures.ok
    c.in_ok-open_out-2.ensures.ok (g.W.World.state c.simulate.new.world) c.in_ok-done.done c.in_ok-done.ensures.done c.in_err-close_out.ensures.err)

pub returns-in_err-close_out-2-clause-stop : goal.returns-in_err-close_out-2-clause-stop
returns-in_err-close_out-2-clause-stop g c =
    let p = err_from_is_err_and c.from_residual-in_err-close_out-2.result c.from_residual-in_err-close_out-2.ensures.1 in
    rw (p.1, p.2)
    (half-closed-fails (ending g (goal.at.returns-in_err-close_out-2-clause-stop g c).After-is_accepted) c.in_ok-open_out.ensures.ok
    c.in_ok-open_out-2.ensures.ok (g.W.World.state c.simulate.new.world) c.in_ok-done.done c.in_ok-done.ensures.done c.in_ok-close_out.ensures.ok
    c.in_err-close_out-2.ensures.err)

pub returns-clause-done : goal.returns-clause-done
returns-clause-done g c =
    both-written (ending g (goal.at.returns-clause-done g c).After-is_accepted) c.in_ok-open_out.ensures.ok c.in_ok-open_out-2.ensures.ok
    (g.W.World.state c.simulate.new.world) c.in_ok-done.done c.in_ok-done.ensures.done c.in_ok-close_out.ensures.ok c.in_ok-close_out-2.ensures.ok

pub open_out-requires-2-clause-allowed : goal.open_out-requires-2-clause-allowed
open_out-requires-2-clause-allowed c = search rules
