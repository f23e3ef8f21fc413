-- What the chain of alternations is worth.
use Rattle.std.specs.Prelude.{◌≡◌, ℕ, ◌<◌, ◌≤◌, List, length, Ok}
use Rattle.ccsl_base.specs.declared.limits.TheConstants.{MAX_TRIAL_CLOCKS}
use Rattle.ccsl_kernel.specs.Lives.{Step}
use Rattle.ccsl_kernel.specs.Accepted.{IsAccepted}
use Rattle.ccsl_kernel.specs.Runs.{IsAdmissible}
use Rattle.ccsl_items.specs.Laws.{IsNamedRun}
use Rattle.ccsl_policy.specs.declared.policies.Policy.{Policy}
use Rattle.ccsl_simulate.specs.Simulation.{simulation}
use Rattle.ccsl_rules.specs.Answer.{elaborated}
use Rattle.ccsl_library.specs.Library.{the_library}
use Rattle.ccsl_chain.specs.Chain.{chain}
use Rattle.ccsl_chain.specs.Text.{chain_file}

-- CHAINS ARE ACCEPTED
abbrev pub ChainsAreAccepted : Type 0
ChainsAreAccepted = (n : ℕ) → n ≤ MAX_TRIAL_CLOCKS → IsAccepted (chain n)

-- CHAINS GO ON: after every run some set is admissible
abbrev pub ChainsGoOn : Type 0
ChainsGoOn = (n : ℕ) → 0 < n → n ≤ MAX_TRIAL_CLOCKS → (T : List Step) → IsNamedRun (chain n) T → (s : Step) × IsAdmissible (chain n) T s

-- SO EACH SIMULATION OF A CHAIN has all its steps
abbrev pub SimulatedChainsAreFull : Type 0
SimulatedChainsAreFull = (n : ℕ) → 0 < n → n ≤ MAX_TRIAL_CLOCKS → (policy : Policy) (seed steps : ℕ) →
    length (simulation (chain n) policy seed steps) ≡ steps

-- A CHAIN IS WHAT ITS TEXT IS ELABORATED TO behind the library
abbrev pub ChainsAreElaborated : Type 0
ChainsAreElaborated = (n : ℕ) → n ≤ MAX_TRIAL_CLOCKS → (place : ℕ → ℕ → ℕ) → elaborated the_library (chain_file place n) ≡ Ok (chain n)
