-- WHAT `min`, `max` AND AN EARLY END MEAN, said of the simulated run itself.
use Rattle.std.specs.Prelude.{◌≡◌, ℕ, ◌<◌, List, true, length, take}
use Rattle.ccsl_base.specs.Clocks.{ticks_in}
use Rattle.ccsl_refute.specs.Existence.{HasCertificate}
use Rattle.ccsl_kernel.specs.Syntax.{System}
use Rattle.ccsl_kernel.specs.Lives.{Step, step_at}
use Rattle.ccsl_kernel.specs.Runs.{IsAdmissible, declared_part}
use Rattle.ccsl_items.specs.Formulas.{item_formulas, scope_of}
use Rattle.ccsl_policy.specs.declared.policies.Policy.{Policy}
use Rattle.ccsl_policy.specs.declared.policies.Policy.TheVariants.{Min, Max}
use Rattle.ccsl_simulate.specs.Simulation.{simulation}

-- each member of s is one of t
abbrev pub IsPart : Step → Step → Type 0
IsPart s t = (x : ℕ) → ticks_in x s ≡ true → ticks_in x t ≡ true

module _ (K : System) (T : List Step) (n : ℕ) where
  -- the declared clocks that tick in step number n, counted from 0
  abbrev pub declared_at : Step
  declared_at = declared_part K (step_at T n)

  -- they are an admissible set after the first n steps, and no admissible set is a proper subset
  pub record IsMinimalStep : Type 0 where
    pub admissible : IsAdmissible K (take n T) declared_at
    pub none_less : (s : Step) → IsAdmissible K (take n T) s → IsPart s declared_at → s ≡ declared_at

  -- and none is a proper superset
  pub record IsMaximalStep : Type 0 where
    pub admissible : IsAdmissible K (take n T) declared_at
    pub none_more : (s : Step) → IsAdmissible K (take n T) s → IsPart declared_at s → s ≡ declared_at

module _ (K : System) where
  -- EACH STEP UNDER `min` IS MINIMAL
  abbrev pub MinIsMinimal : Type 0
  MinIsMinimal = (seed steps n : ℕ) → n < length (simulation K Min seed steps) → IsMinimalStep K (simulation K Min seed steps) n

  -- EACH STEP UNDER `max` IS MAXIMAL
  abbrev pub MaxIsMaximal : Type 0
  MaxIsMaximal = (seed steps n : ℕ) → n < length (simulation K Max seed steps) → IsMaximalStep K (simulation K Max seed steps) n

  -- EVERY DEADLOCK HAS A CERTIFICATE: a simulation that ends early has lines that show that no set goes on
  abbrev pub DeadlocksHaveCertificates : Type 0
  DeadlocksHaveCertificates = (policy : Policy) (seed steps : ℕ) → length (simulation K policy seed steps) < steps →
      HasCertificate (scope_of K) (item_formulas K (simulation K policy seed steps))
