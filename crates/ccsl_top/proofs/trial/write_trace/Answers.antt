use Rattle.ccsl_top.proofs.Trying.{holds-trace}
use Rattle.ccsl_top.proofs.trial.write_trace.Goals as goal

pub returns-in-Ok-open_in : goal.returns-in-Ok-open_in
returns-in-Ok-open_in c =
    holds-trace c.args.system.now c.args.seed c.args.steps c.args.world.now c.write_run.new.world c.open_in.new.self c.in-Ok._done
    c.in-Ok.ensures.done c.in-Ok-open_in.ensures.ok
