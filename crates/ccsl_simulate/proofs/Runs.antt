-- The simulated run, step by step: it goes on by the chosen set or stops for good, and is a run.
use Rattle.std.proofs.Common.{◌≡◌, ℕ, zero, suc, ◌+◌, ◌-◌, ◌<◌, ◌≤◌, List, [], ◌∷◌, ◌++◌, length, take, Option, Some, None, ⊎_elim, refl, sym, ap, ◌∙◌, subst}
use Rattle.std.proofs.Common.{arith, append-nil, append_assoc, length-append}
use Rattle.std.proofs.lemmas.Bool.{cases_lt}
use Rattle.std.proofs.lemmas.List.{take_all, take-append-le}
use Rattle.ccsl_kernel.specs.Syntax.{System}
use Rattle.ccsl_kernel.specs.Lives.{Step}
use Rattle.ccsl_kernel.specs.Accepted.{IsAccepted}
use Rattle.ccsl_kernel.specs.Runs.{full_step}
use Rattle.ccsl_items.specs.Laws.{IsNamedRun}
use Rattle.ccsl_items.proofs.Solutions.{admissible_solution, solution_full, solution_run}
use Rattle.ccsl_policy.specs.declared.policies.Policy.{Policy}
use Rattle.ccsl_simulate.specs.Simulation.{words_of_step, next_chosen, with_step, simulation}
use Rattle.ccsl_simulate.proofs.Choosing.{chosen-best}

module _ (K : System) (policy : Policy) (seed : ℕ) where
  abbrev run : ℕ → List Step
  run n = simulation K policy seed n

  abbrev pub chosen_after : ℕ → Option Step
  chosen_after n = next_chosen K policy seed (simulation K policy seed n)

  pub run-zero : run 0 ≡ []
  unfolding simulation
  run-zero = refl

  run-suc : (n : ℕ) → run (suc n) ≡ with_step K (run n) (chosen_after n)
  unfolding simulation
  run-suc n = refl

  pub goes : (n : ℕ) (s : Step) → chosen_after n ≡ Some s → run (suc n) ≡ run n ++ full_step K (run n) s ∷ []
  goes n s h = run-suc n ∙ ap (with_step K (run n)) h

  stops : (n : ℕ) → chosen_after n ≡ None → run (suc n) ≡ run n
  stops n h = run-suc n ∙ ap (with_step K (run n)) h

  -- at most n steps
  pub few : (n : ℕ) → length (run n) ≤ n
  few zero = omega (arith, ap length run-zero)
  few (suc n) = on (chosen_after n) refl (few n)
    where
      on : (o : Option Step) → chosen_after n ≡ o → length (run n) ≤ n → length (run (suc n)) ≤ suc n
      on None h l = omega (arith, ap length (stops n h))
      on (Some s) h l = omega (arith, ap length (goes n s h), length-append (run n) (full_step K (run n) s ∷ []))

  -- where none is chosen it stays as it is
  pub stopped : (n k : ℕ) → chosen_after n ≡ None → run (n + k) ≡ run n
  stopped n zero h = let e : n + 0 ≡ n = omega arith in ap run e
  stopped n (suc k) h =
      let e : n + suc k ≡ suc (n + k) = omega arith in
      let rest = stopped n k h in
      ap run e ∙ stops (n + k) (ap (next_chosen K policy seed) rest ∙ h) ∙ rest

  -- steps are added behind
  pub further : (n k : ℕ) → (more : List Step) × (run (n + k) ≡ run n ++ more)
  further n zero = let e : n + 0 ≡ n = omega arith in ([], ap run e ∙ sym (append-nil (run n)))
  further n (suc k) = on (chosen_after (n + k)) refl (further n k)
    where
      at : run (n + suc k) ≡ run (suc (n + k))
      at = let e : n + suc k ≡ suc (n + k) = omega arith in ap run e

      on : (o : Option Step) → chosen_after (n + k) ≡ o → (more : List Step) × (run (n + k) ≡ run n ++ more)
          → (more : List Step) × (run (n + suc k) ≡ run n ++ more)
      on None h q = (q.0, at ∙ stops (n + k) h ∙ q.1)
      on (Some s) h q =
          let f = full_step K (run (n + k)) s in
          (q.0 ++ f ∷ [], at ∙ goes (n + k) s h ∙ ap (λ U. U ++ f ∷ []) q.1 ∙ append_assoc (run n) q.0 (f ∷ []))

  pub later : (n m : ℕ) → n ≤ m → (more : List Step) × (run m ≡ run n ++ more)
  later n m l = let e : n + (m - n) ≡ m = omega arith in let q = further n (m - n) in (q.0, ap run (sym e) ∙ q.1)

  -- a run that ended early has stopped
  pub short-stops : (n : ℕ) → length (run n) < n → chosen_after n ≡ None
  short-stops zero l = let z : ⊥ = omega arith in absurd z
  short-stops (suc n) l = on (chosen_after n) refl (short-stops n)
    where
      on : (o : Option Step) → chosen_after n ≡ o → (length (run n) < n → chosen_after n ≡ None) → chosen_after (suc n) ≡ None
      on None h before = ap (next_chosen K policy seed) (stops n h) ∙ h
      on (Some s) h before =
          let shorter : length (run n) < n = omega (arith, ap length (goes n s h), length-append (run n) (full_step K (run n) s ∷ [])) in
          let early : Some s ≡ None = sym h ∙ before shorter in
          absurd (cc)

  -- fewer steps are a front of more
  pub front : (n m : ℕ) → n ≤ m → run n ≡ take n (run m)
  front n m l =
      ⊎_elim
      (λ (s : length (run n) < n).
      let e : n + (m - n) ≡ m = omega arith in
      let same : run m ≡ run n = ap run (sym e) ∙ stopped n (m - n) (short-stops n s) in
      sym (ap (take n) same ∙ take_all n (run n) (few n)))
      (λ (s : n ≤ length (run n)).
      let q = later n m l in
      sym (ap (take n) q.1 ∙ take-append-le n (run n) q.0 s ∙ take_all n (run n) (few n)))
      (cases_lt (length (run n)) n)

  -- IT IS A RUN of sets of named clocks
  pub named_run : IsAccepted K → (n : ℕ) → IsNamedRun K (run n)
  named_run ok zero = subst (IsNamedRun K) (sym run-zero) (record { run = λ n i l j. let z : ⊥ = omega arith in absurd z; named = refl })
  named_run ok (suc n) = on (chosen_after n) refl (named_run ok n)
    where
      on : (o : Option Step) → chosen_after n ≡ o → IsNamedRun K (run n) → IsNamedRun K (run (suc n))
      on None h before = subst (IsNamedRun K) (sym (stops n h)) before
      on (Some s) h before =
          let best = chosen-best K (run n) policy (words_of_step K seed (length (run n))) s h in
          let q = admissible_solution K ok (run n) before s best.admissible in
          let f = solution_full K ok (run n) before q.0 q.1 in
          subst (IsNamedRun K)
          (sym (goes n s h ∙ ap (λ d. run n ++ full_step K (run n) d ∷ []) (sym q.2) ∙ ap (λ u. run n ++ u ∷ []) f.declared))
          (solution_run K ok (run n) before q.0 q.1)
