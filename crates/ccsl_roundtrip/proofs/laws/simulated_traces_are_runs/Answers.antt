use Rattle.ccsl_roundtrip.proofs.Judged.{simulated-runs}
use Rattle.ccsl_roundtrip.proofs.laws.simulated_traces_are_runs.Goals as goal

pub returns : goal.returns
returns c =
    let K = c.args.system.now in
    let ok = c.is_accepted.ensures in
    simulated-runs K ok c.read_back.ensures.read c.read_back.ensures.bound c.read_back.ensures.rows c.texts_fit.ensures
    (c.runs_complete.ensures K ok) (c.verdict_is_first.ensures K) (c.admissible_sets_solve.ensures K ok) (c.solutions_are_full.ensures K ok)
    (λ p. c.simulation_is_one.ensures K p) (λ p. c.simulations_run.ensures K p ok) (λ p. c.fewer_steps_are_a_front.ensures K p)
