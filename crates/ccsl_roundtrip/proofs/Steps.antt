-- Each step of a simulation shows a clock.
use Rattle.std.proofs.Common.{◌≡◌, ◌≢◌, ℕ, zero, suc, ◌+◌, ◌<◌, ◌≤◌, List, [], ◌∷◌, All, Bool, true, false, cond, ◌&&◌, length, filter, take, nat_lt, IsTrue}
use Rattle.std.proofs.Common.{refl, sym, ap, ◌∙◌, subst, arith, lt-ltb, le-ltb, ⊎_elim}
use Rattle.std.specs.List.{list_all}
use Rattle.std.proofs.lemmas.List.Elements.{All-from_get_or}
use Rattle.std.proofs.lemmas.Bool.{cases_lt, and_parts}
use Rattle.ccsl_base.specs.Clocks.{is_ascending, are_below}
use Rattle.ccsl_kernel.specs.Syntax.{System}
use Rattle.ccsl_kernel.specs.Lives.{Step, step_at}
use Rattle.ccsl_kernel.specs.Runs.{declared_part, full_step, is_named}
use Rattle.ccsl_items.specs.Laws.{IsNamedRun, AdmissibleSetsSolve, SolutionsAreFull}
use Rattle.ccsl_policy.specs.declared.policies.Policy.{Policy}
use Rattle.ccsl_simulate.specs.Simulation.{simulation}
use Rattle.ccsl_simulate.specs.Laws.{IsSimulation, SimulationIsOne, SimulationsRun, FewerStepsAreAFront}
use Rattle.ccsl_vcd_write.specs.ReadsBack.{IsShown}

-- where a set has no written clock it has no declared one
hidden-part : (m n : ℕ) → m ≤ n → (xs : List ℕ) → filter (λ x. nat_lt x n) xs ≡ [] → filter (λ x. nat_lt x m) xs ≡ []
hidden-part m n l [] e = refl
hidden-part m n l (x ∷ xs) e = ⊎_elim (λ h. absurd (shown (nat_lt x n) (lt-ltb x n h) e)) (λ h. rest h (λ f. hidden-part m n l xs f)) (cases_lt x n)
  where
    shown : (t : Bool) → t ≡ true → cond t (x ∷ filter (λ x. nat_lt x n) xs) (filter (λ x. nat_lt x n) xs) ≡ [] → ⊥
    shown true is e = let clash : x ∷ filter (λ x. nat_lt x n) xs ≡ [] = e in absurd (cc)
    shown false is e = let clash : false ≡ true = is in absurd (cc)

    rest : n ≤ x → (filter (λ x. nat_lt x n) xs ≡ [] → filter (λ x. nat_lt x m) xs ≡ []) → filter (λ x. nat_lt x m) (x ∷ xs) ≡ []
    rest h more = ap (λ t. cond t (x ∷ filter (λ x. nat_lt x m) xs) (filter (λ x. nat_lt x m) xs)) (le-ltb x m (omega (arith, h, l)))
        ∙ more (sym (ap (λ t. cond t (x ∷ filter (λ x. nat_lt x n) xs) (filter (λ x. nat_lt x n) xs)) (le-ltb x n h)) ∙ e)

-- a step of a list of named sets is one
named-step : (K : System) (T : List Step) (n : ℕ) → n < length T → list_all (is_named K) T ≡ true → is_named K (step_at T n) ≡ true
named-step K [] n l e = absurd (omega (arith, l))
named-step K (s ∷ T) zero l e = (and_parts (is_named K s) (list_all (is_named K) T) e).0
named-step K (s ∷ T) (suc n) l e = named-step K T n (omega (arith, l)) (and_parts (is_named K s) (list_all (is_named K) T) e).1

all-steps : (P : Step → Type 0) (T : List Step) → ((n : ℕ) → n < length T → P (step_at T n)) → All P T
all-steps P T each = All-from_get_or P T [] (λ i l. each i l)

module _ (K : System) (low : K.declared ≤ K.written) (p : Policy) (solve : AdmissibleSetsSolve K) (full : SolutionsAreFull K)
    (one : SimulationIsOne K p) (runs : SimulationsRun K p) (front : FewerStepsAreAFront K p) (seed steps : ℕ) where
  T : List Step
  T = simulation K p seed steps

  is-simulation : IsSimulation K p seed steps T
  unfolding T
  is-simulation = (one seed steps (simulation K p seed steps)).1 refl

  front-run : (n : ℕ) → n ≤ steps → IsNamedRun K (take n T)
  unfolding T
  front-run n l = subst (IsNamedRun K) (front seed n steps l) (runs seed n)

  -- the declared part of each step is the set that was chosen
  ticks-at : (n : ℕ) → n < length T → declared_part K (step_at T n) ≢ []
  ticks-at n l =
      let it = is-simulation.each n l in
      let few = is-simulation.few in
      let s = it.0 in
      let run = front-run n (omega (arith, l, few)) in
      let u = (solve (take n T) run s).0 it.1.admissible in
      let step-is : step_at T n ≡ u.0 = it.2 ∙ ap (full_step K (take n T)) (sym u.2) ∙ (full (take n T) run u.0 u.1).declared in
      let part : declared_part K (step_at T n) ≡ s = ap (declared_part K) step-is ∙ u.2 in
      λ e. it.1.admissible.nonempty (sym part ∙ e)

  pub shows : All (IsShown K) (simulation K p seed steps)
  unfolding T
  shows = all-steps (IsShown K) (simulation K p seed steps) (λ n l. record {
    set = (and_parts (is_ascending (step_at T n)) (are_below (K.declared + length K.definitions) (step_at T n)) (named-step K T n l (runs seed steps).named)).0;
    ticks = λ e. ticks-at n l (hidden-part K.declared K.written low (step_at T n) e);
  })

  pub ascends : All (λ (step : Step). IsTrue (is_ascending step)) (simulation K p seed steps)
  unfolding T
  ascends = all-steps (λ step. IsTrue (is_ascending step)) (simulation K p seed steps)
      (λ n l. (and_parts (is_ascending (step_at T n)) (are_below (K.declared + length K.definitions) (step_at T n))
      (named-step K T n l (runs seed steps).named)).0)
