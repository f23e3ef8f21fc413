use Rattle.std.proofs.Common.{◌<◌, ◌≤◌, length, refl, ⊎_elim, arith}
use Rattle.std.proofs.lemmas.Bool.{cases_lt}
use Rattle.ccsl_simulate.specs.Simulation.{simulation}
use Rattle.ccsl_chain.specs.Chain.{chain}
use Rattle.ccsl_chain.proofs.laws.simulated_chains_are_full.Goals as goal

pub returns : goal.returns
returns c = λ n pos few policy seed steps.
    let T = simulation (chain n) policy seed steps in
    let most = ((c.simulation_is_one.ensures (chain n) policy seed steps T).1 refl).few in
    let run = c.simulations_run.ensures (chain n) policy (c.chains_are_accepted.ensures n few) seed steps in
    let go = c.chains_go_on.ensures n pos few T run in
    ⊎_elim
    (λ (early : length T < steps). absurd (c.early_ends_are_deadlocks.ensures (chain n) policy seed steps early go.0 go.1))
    (λ (l : steps ≤ length T). omega arith)
    (cases_lt (length T) steps)
