-- When a set is better than another.
use Rattle.std.specs.Prelude.{ℕ, List, true, not, ◌≡◌, ◌<◌}
use Rattle.ccsl_formula.specs.Truth.{Assignment}
use Rattle.ccsl_policy.specs.declared.policies.Policy.{Policy}
use Rattle.ccsl_policy.specs.Priority.{word_of, comes_before, preferred}

-- s is better than t: at the first of m clocks by priority at which they differ it has the preferred value
pub record IsBetter (m : ℕ) (policy : Policy) (words : List ℕ) (s t : Assignment) : Type 0 where
  pub clock : ℕ
  pub declared : clock < m
  pub differ : s clock ≡ not (t clock)
  pub preferred : s clock ≡ preferred policy (word_of words clock)
  pub before : (d : ℕ) → d < m → comes_before words d clock ≡ true → s d ≡ t d
