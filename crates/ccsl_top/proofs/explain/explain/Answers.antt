use Rattle.std.proofs.Common.{ap}
use Rattle.ccsl_top.specs.Outcome.{outcome}
use Rattle.ccsl_top.proofs.Verdicts.{violated-item}
use Rattle.ccsl_top.proofs.Running.{trace-no-run, trace-answers, trace-stops}
use Rattle.ccsl_top.proofs.explain.explain.Goals as goal

pub explain_no_run-requires : goal.explain_no_run-requires
explain_no_run-requires g c =
    let r = rw c.in-Ok-NotRun.field-0-is at c.in-Ok-NotRun.ensures.replayed in
    violated-item c.args.system.now r.bound r.rows c.in-Ok-NotRun.broken.step c.in-Ok-NotRun.broken.time c.in-Ok-NotRun.broken.item r.answers

pub returns-in-Ok-Run-clause-answers : goal.returns-in-Ok-Run-clause-answers
returns-in-Ok-Run-clause-answers g c =
    let r = rw c.in-Ok-Run.field-0-is at c.in-Ok-Run.ensures.replayed in
    trace-answers c.args.cert.now c.in_ok-open_in.ensures.ok r.trace r.answers.0 (g.W.World.state c.explain_run.new.world) r.answers.1
    c.explain_run.result c.explain_run.ensures.answers

pub returns-in-Ok-Run-clause-stop : goal.returns-in-Ok-Run-clause-stop
returns-in-Ok-Run-clause-stop g c =
    let r = rw c.in-Ok-Run.field-0-is at c.in-Ok-Run.ensures.replayed in
    trace-stops c.args.cert.now c.in_ok-open_in.ensures.ok r.trace r.answers.0 (g.W.World.state c.explain_run.new.world) r.answers.1
    c.explain_run.result c.explain_run.ensures.stop

pub returns-in_ok-explain_no_run-in-Ok-NotRun-clause-answers : goal.returns-in_ok-explain_no_run-in-Ok-NotRun-clause-answers
returns-in_ok-explain_no_run-in-Ok-NotRun-clause-answers g c =
    let r = rw c.in-Ok-NotRun.field-0-is at c.in-Ok-NotRun.ensures.replayed in
    trace-no-run c.args.cert.now c.in_ok-open_in.ensures.ok r.trace r.answers _ (ap (outcome 1) c.in_ok-explain_no_run-in-Ok-NotRun.ensures)
