-- Worked choices and simulations, computed.
use Rattle.std.proofs.Common.{◌≡◌, ℕ, List, [], ◌∷◌, Some, refl, codes}
use Rattle.ccsl_kernel.specs.declared.constraint.RelationKind.TheVariants.{Precedes}
use Rattle.ccsl_kernel.specs.declared.constraint.Constraint.{Constraint}
use Rattle.ccsl_kernel.specs.Syntax.{System}
use Rattle.ccsl_policy.specs.declared.policies.Policy.{Policy}
use Rattle.ccsl_policy.specs.declared.policies.Policy.TheVariants.{Min, Max, Seeded}
use Rattle.ccsl_simulate.specs.Chosen.{chosen}
use Rattle.ccsl_simulate.specs.Simulation.{simulation}

-- two declared clocks under some constraints
abbrev pair : List Constraint → System
pair constraints = record {
  names = codes "a" ∷ codes "b" ∷ [];
  declared = 2;
  written = 2;
  groups = [];
  words = [];
  definitions = [];
  constraints =
      constraints;
}

-- the second clock has the smaller word and comes first: it does not tick, or it does, or its odd word says that it does
pub worked_min : chosen (pair []) [] Min (5 ∷ 3 ∷ []) ≡ Some (0 ∷ [])
unfolding chosen
worked_min = refl

pub worked_max : chosen (pair []) [] Max (5 ∷ 3 ∷ []) ≡ Some (0 ∷ 1 ∷ [])
unfolding chosen
worked_max = refl

pub worked_seeded : chosen (pair []) [] Seeded (4 ∷ 3 ∷ []) ≡ Some (1 ∷ [])
unfolding chosen
worked_seeded = refl

-- where a precedes b, only a can tick first, whatever the words are
pub worked_first : (policy : Policy) (seed : ℕ)
    → simulation (pair (record { kind = Precedes; left = 0; right = 1; label = [] } ∷ [])) policy seed 1 ≡ (0 ∷ []) ∷ []
unfolding chosen simulation
worked_first policy seed = refl

-- where each precedes the other, none can
pub worked_blocked : (policy : Policy) (seed : ℕ)
    → simulation (pair (record { kind = Precedes; left = 0; right = 1; label = [] } ∷ record { kind = Precedes; left = 1; right = 0; label = [] } ∷ [])) policy
    seed 2 ≡ []
unfolding chosen simulation
worked_blocked policy seed = refl
