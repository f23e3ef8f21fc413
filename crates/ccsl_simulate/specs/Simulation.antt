-- THE SIMULATED RUN: the full step of the chosen set is added again and again, so many times or until no set is admissible.
use Rattle.std.specs.Prelude.{ℕ, zero, suc, ◌*◌, List, [], ◌∷◌, ◌++◌, Option, Some, None, length}
use Rattle.ccsl_kernel.specs.Syntax.{System}
use Rattle.ccsl_kernel.specs.Lives.{Step}
use Rattle.ccsl_kernel.specs.Runs.{full_step}
use Rattle.ccsl_policy.specs.declared.policies.Policy.{Policy}
use Rattle.ccsl_policy.specs.Words.{words_from}
use Rattle.ccsl_simulate.specs.Chosen.{chosen}

-- the words of step number n, counted from 0: one for each declared clock, behind those of the earlier steps
abbrev pub words_of_step : System → ℕ → ℕ → List ℕ
words_of_step K seed n = words_from seed (n * K.declared) K.declared

-- the set that is chosen for the next step, by the words of its number
abbrev pub next_chosen : System → Policy → ℕ → List Step → Option Step
next_chosen K policy seed T = chosen K T policy (words_of_step K seed (length T))

-- the steps and the full step of a chosen set, where there is one
abbrev pub with_step : System → List Step → Option Step → List Step
with_step K T None = T
with_step K T (Some s) = T ++ full_step K T s ∷ []

unfoldable pub simulation : System → Policy → ℕ → ℕ → List Step
simulation K policy seed zero = []
simulation K policy seed (suc n) = let T = simulation K policy seed n in with_step K T (next_chosen K policy seed T)
