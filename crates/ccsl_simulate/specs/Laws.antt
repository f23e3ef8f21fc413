-- What the simulated run is, said of the whole list of steps.
use Rattle.std.specs.Prelude.{◌≡◌, ◌↔◌, ℕ, ◌<◌, ◌≤◌, List, length, take}
use Rattle.ccsl_formula.specs.Formula.{in_set}
use Rattle.ccsl_kernel.specs.Syntax.{System}
use Rattle.ccsl_kernel.specs.Lives.{Step, step_at}
use Rattle.ccsl_kernel.specs.Runs.{IsAdmissible, full_step}
use Rattle.ccsl_items.specs.Laws.{IsNamedRun}
use Rattle.ccsl_policy.specs.declared.policies.Policy.{Policy}
use Rattle.ccsl_policy.specs.Better.{IsBetter}
use Rattle.ccsl_simulate.specs.Simulation.{words_of_step, simulation}

module _ (K : System) (policy : Policy) where
  -- s is admissible after the steps T, and no admissible set is better by these words
  pub record IsBest (words : List ℕ) (T : List Step) (s : Step) : Type 0 where
    pub admissible : IsAdmissible K T s
    pub best : (t : Step) → IsAdmissible K T t → IsBetter K.declared policy words (in_set t) (in_set s) → ⊥

  -- each step is the full step of the best set after the steps before it, by the words of its number, and a run with fewer
  -- steps than wanted ends where no set is admissible
  pub record IsSimulation (seed steps : ℕ) (T : List Step) : Type 0 where
    pub few : length T ≤ steps
    pub each : (n : ℕ) → n < length T →
        (s : Step) × IsBest (words_of_step K seed n) (take n T) s × (step_at T n ≡ full_step K (take n T) s)
    pub ends : length T < steps → (s : Step) → IsAdmissible K T s → ⊥

  -- THERE IS ONE SIMULATION
  abbrev pub SimulationIsOne : Type 0
  SimulationIsOne = (seed steps : ℕ) (T : List Step) → IsSimulation seed steps T ↔ (T ≡ simulation K policy seed steps)

  -- SIMULATIONS ARE RUNS
  abbrev pub SimulationsRun : Type 0
  SimulationsRun = (seed steps : ℕ) → IsNamedRun K (simulation K policy seed steps)

  -- A SIMULATION WITH FEWER STEPS is the front of one with more
  abbrev pub FewerStepsAreAFront : Type 0
  FewerStepsAreAFront = (seed n steps : ℕ) → n ≤ steps → simulation K policy seed n ≡ take n (simulation K policy seed steps)

  -- AN EARLY END IS A DEADLOCK: no set is admissible after it
  abbrev pub EarlyEndsAreDeadlocks : Type 0
  EarlyEndsAreDeadlocks = (seed steps : ℕ) → length (simulation K policy seed steps) < steps →
      (s : Step) → IsAdmissible K (simulation K policy seed steps) s → ⊥
