use Rattle.ccsl_edge.specs.Memory.{shown}
use Rattle.ccsl_top.proofs.Trying.{never-violated}
use Rattle.ccsl_top.proofs.trial.judged_steps.Goals as goal

pub unreachable-requires : goal.unreachable-requires
unreachable-requires g c =
    never-violated c.args.system.now c.simulated_traces_are_runs.ensures c.requires.0 c.requires.1 c.requires.3 c.args.world.now c.requires.2
    (shown c.judge.new.world) c.in-Ok-Violated.field-0-0
    (rw c.in-Ok-Violated.field-0-is at c.in-Ok-Violated.ensures.judged)
