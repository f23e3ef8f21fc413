-- RUNS, and what a list of declared ticks means.
use Rattle.std.specs.Prelude.{◌≡◌, ℕ, suc, ◌+◌, ◌<◌, List, [], ◌∷◌, ◌++◌, Bool, true, ◌&&◌, Some, map, filter, length, nat_lt, if◌then◌else◌, ◌≢◌}
use Rattle.ccsl_base.specs.Clocks.{ticks_in, with_clock, is_ascending, are_below}
use Rattle.ccsl_formula.specs.Formula.{eval}
use Rattle.ccsl_kernel.specs.Syntax.{Expression, System, item_count, definition_of}
use Rattle.ccsl_kernel.specs.Lives.{Step, step_at}
use Rattle.ccsl_kernel.specs.Meaning.{formula_at}
use Rattle.ccsl_kernel.specs.Items.{item_formula}

-- item number i holds at step n
abbrev pub holds_at : System → List Step → ℕ → ℕ → Bool
holds_at K T n i = eval (item_formula K T n i) (step_at T n)

-- a list of steps that obeys every item at every step
abbrev pub IsRun : System → List Step → Type 0
IsRun K T = (n i : ℕ) → n < length T → i < item_count K → holds_at K T n i ≡ true

-- each defined clock ticks at exactly the steps at which the formula of its definition holds
abbrev pub ObeysDefinitions : System → List Step → Type 0
ObeysDefinitions K T = (x : ℕ) (e : Expression) (n : ℕ) → definition_of K x ≡ Some e → n < length T →
    ticks_in x (step_at T n) ≡ eval (formula_at K T x e [] 0 n) (step_at T n)

-- THE COMPLETION. The definitions from clock x on are taken in order, each under the ticks found so far
abbrev pub derived_from : System → List Step → List Expression → ℕ → Step → Step
derived_from K T [] x s = s
derived_from K T (e ∷ es) x s = derived_from K T es (suc x) (if eval (formula_at K T x e [] 0 (length T)) s then with_clock x s else s)

-- the full step that declared ticks give after the steps T
abbrev pub full_step : System → List Step → Step → Step
full_step K T s = derived_from K T K.definitions K.declared s

-- each set of declared ticks in turn, after the steps T
abbrev pub completed_after : System → List Step → List Step → List Step
completed_after K T [] = T
completed_after K T (s ∷ R) = completed_after K (T ++ full_step K T s ∷ []) R

abbrev pub completed : System → List Step → List Step
completed K R = completed_after K [] R

-- the declared clocks of a step
abbrev pub declared_part : System → Step → Step
declared_part K s = filter (λ x. nat_lt x K.declared) s

-- a set of declared clocks
abbrev pub is_declared : System → Step → Bool
is_declared K s = is_ascending s && are_below K.declared s

-- a set of named clocks
abbrev pub is_named : System → Step → Bool
is_named K s = is_ascending s && are_below (K.declared + length K.definitions) s

-- a nonempty set of declared clocks by which the steps T go on as a run
pub record IsAdmissible (K : System) (T : List Step) (s : Step) : Type 0 where
  pub nonempty : s ≢ []
  pub declared : is_declared K s ≡ true
  pub run : IsRun K (completed K (map (declared_part K) T ++ s ∷ []))
