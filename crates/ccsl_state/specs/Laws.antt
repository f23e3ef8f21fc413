-- The laws of the states.
use Rattle.std.specs.Prelude.{◌≡◌, ℕ, ◌+◌, ◌<◌, ◌≤◌, ◌^◌, List, [], ◌∷◌, ◌++◌, Some, length, Bool, true, false}
use Rattle.ccsl_base.specs.Clocks.{ticks_in, are_below}
use Rattle.ccsl_kernel.specs.declared.actual.Actual.{Actual}
use Rattle.ccsl_kernel.specs.Syntax.{Expression, System, definition_of}
use Rattle.ccsl_kernel.specs.Lives.{Step}
use Rattle.ccsl_kernel.specs.Meaning.{life_given}
use Rattle.ccsl_kernel.specs.Deaths.{dead_at}
use Rattle.ccsl_kernel.specs.Guarded.{IsAllowed}
use Rattle.ccsl_kernel.specs.Items.{item_formula}
use Rattle.ccsl_kernel.specs.Runs.{ObeysDefinitions, full_step, completed}
use Rattle.ccsl_state.specs.Grown.{grown_meaning}
use Rattle.ccsl_state.specs.Held.{Held, is_dead, derived_by, formula_in, Advances, StandsFor}

-- THE REWRITING THEOREM: a tree that is rewritten step by step gives formula and death by the whole history
abbrev pub TreesMean : System → Type 0
TreesMean K = (T : List Step) (gone : ℕ → ℕ → Bool) (e : Expression) (ρ : List Actual) (b n : ℕ) → length T < 2 ^ 64 → IsAllowed K e → b ≤ n →
    n ≤ length T → grown_meaning K T gone e ρ b n ≡ life_given K T gone e ρ b n

-- THE ROW TELLS WHAT THE STEPS MEAN that it stands for
pub record Means (h : Held) (T : List Step) : Type 0 where
  pub formulas : (item : ℕ) → formula_in h item ≡ item_formula h.system T (length T) item
  pub derived : (s : Step) → derived_by h s ≡ full_step h.system T s
  pub deaths : (i : ℕ) (e : Expression) → definition_of h.system (h.system.declared + i) ≡ Some e →
      is_dead h i ≡ dead_at h.system T (h.system.declared + i) e [] 0 (length T)

-- IT GOES ON as the list does
abbrev pub GoesOn : Held → Type 0
GoesOn h = (h' : Held) (T : List Step) (s : Step) → StandsFor h T → Advances h (derived_by h s) h' → length T + 1 < 2 ^ 64 →
    StandsFor h' (T ++ full_step h.system T s ∷ [])

-- WHAT IS DERIVED is the next step of the completion
abbrev pub DerivesNext : Held → Type 0
DerivesNext h = (R : List Step) (s : Step) → StandsFor h (completed h.system R) →
    completed h.system (R ++ s ∷ []) ≡ completed h.system R ++ derived_by h s ∷ []

-- a definition that is dead before a full step neither ticks in it nor comes back
abbrev pub StaySilent : Held → Step → Held → Type 0
StaySilent h f h' = (i : ℕ) → i < length h.system.definitions → is_dead h i ≡ true →
    (ticks_in (h.system.declared + i) f ≡ false) × (is_dead h' i ≡ true)

-- WHAT IS DEAD STAYS SILENT, after a list that obeys the definitions
abbrev pub DeadStaySilent : Held → Type 0
DeadStaySilent h = (h' : Held) (T : List Step) (s : Step) → StandsFor h T → ObeysDefinitions h.system T →
    are_below h.system.declared s ≡ true → length T + 1 < 2 ^ 64 → Advances h (derived_by h s) h' → StaySilent h (derived_by h s) h'
