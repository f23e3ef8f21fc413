-- There is one list of steps that is the simulation.
use Rattle.std.proofs.Common.{◌≡◌, ℕ, zero, suc, ◌+◌, ◌-◌, ◌<◌, ◌≤◌, List, [], ◌∷◌, ◌++◌, length, take, Option, Some, None, ⊎_elim, refl, sym, ap, ◌∙◌, subst}
use Rattle.std.proofs.Common.{arith, append_assoc, length-take-le}
use Rattle.std.proofs.lemmas.Bool.{cases_lt}
use Rattle.std.proofs.lemmas.List.{take_all}
use Rattle.std.proofs.Math.Seq.{take-suc, get_or-append_seam}
use Rattle.ccsl_kernel.specs.Syntax.{System}
use Rattle.ccsl_kernel.specs.Lives.{Step, step_at}
use Rattle.ccsl_kernel.specs.Runs.{IsAdmissible, full_step}
use Rattle.ccsl_policy.specs.declared.policies.Policy.{Policy}
use Rattle.ccsl_simulate.specs.Simulation.{words_of_step, simulation}
use Rattle.ccsl_simulate.specs.Laws.{IsBest, IsSimulation}
use Rattle.ccsl_simulate.proofs.Choosing.{chosen-best, none-admissible, none-chosen, best-chosen}
use Rattle.ccsl_simulate.proofs.Runs.{chosen_after, run-zero, goes, few, stopped, later, short-stops, front}

module _ (K : System) (policy : Policy) (seed : ℕ) where
  abbrev run : ℕ → List Step
  run n = simulation K policy seed n

  -- a simulation begins as the function does
  same-front : (steps : ℕ) (T : List Step) → IsSimulation K policy seed steps T → (n : ℕ) → n ≤ length T → run n ≡ take n T
  same-front steps T h zero l = run-zero K policy seed
  same-front steps T h (suc n) l =
      let before = same-front steps T h n (omega arith) in
      let q = h.each n (omega arith) in
      let size : n ≡ length (run n) = sym (ap length before ∙ length-take-le n T (omega arith)) in
      let best : IsBest K policy (words_of_step K seed (length (run n))) (run n) q.0 =
      subst (λ U. IsBest K policy (words_of_step K seed (length (run n))) U q.0) (sym before)
      (subst (λ k. IsBest K policy (words_of_step K seed k) (take n T) q.0) size q.1) in
      goes K policy seed n q.0 (best-chosen K (run n) policy (words_of_step K seed (length (run n))) q.0 best)
      ∙ ap (λ U. U ++ full_step K U q.0 ∷ []) before
      ∙ ap (λ f. take n T ++ f ∷ []) (sym q.2)
      ∙ sym (take-suc T n [] (omega arith))

  pub simulation-is : (steps : ℕ) (T : List Step) → IsSimulation K policy seed steps T → T ≡ run steps
  simulation-is steps T h =
      let few' = h.few in
      let all : run (length T) ≡ T = same-front steps T h (length T) (omega arith) ∙ take_all (length T) T (omega arith) in
      ⊎_elim
      (λ (l : length T < steps).
      let none = none-chosen K (run (length T)) policy (words_of_step K seed (length (run (length T))))
      (λ s a. h.ends l s (subst (λ U. IsAdmissible K U s) all a)) in
      let e : length T + (steps - length T) ≡ steps = omega arith in
      sym all ∙ sym (stopped K policy seed (length T) (steps - length T) none) ∙ ap run e)
      (λ (l : steps ≤ length T). let e : length T ≡ steps = omega arith in sym all ∙ ap run e)
      (cases_lt (length T) steps)

  -- the function's run has a step number n where it has more than n steps
  step-chosen : (steps n : ℕ) → n < length (run steps) → (s : Step) × (chosen_after K policy seed n ≡ Some s)
  step-chosen steps n l = on (chosen_after K policy seed n) refl
    where
      on : (o : Option Step) → chosen_after K policy seed n ≡ o → (s : Step) × (chosen_after K policy seed n ≡ Some s)
      on (Some s) h = (s, h)
      on None h =
          let few' = few K policy seed steps in
          let e : n + (steps - n) ≡ steps = omega arith in
          let same : run steps ≡ run n = ap run (sym e) ∙ stopped K policy seed n (steps - n) h in
          let z : ⊥ = omega (arith, ap length same, few K policy seed n) in
          absurd z

  pub is-simulation : (steps : ℕ) → IsSimulation K policy seed steps (run steps)
  is-simulation steps = record {
    few = few K policy seed steps;
    each = λ n l.
        let few' = few K policy seed steps in
        let within : n < steps = omega arith in
        let q = step-chosen steps n l in
        let before : run n ≡ take n (run steps) = front K policy seed n steps (omega arith) in
        let size : length (run n) ≡ n = ap length before ∙ length-take-le n (run steps) (omega arith) in
        let best = chosen-best K (run n) policy (words_of_step K seed (length (run n))) q.0 q.1 in
        let more = later K policy seed (suc n) steps (omega arith) in
        let f = full_step K (run n) q.0 in
        let whole : run steps ≡ run n ++ f ∷ more.0 = more.1 ∙ ap (λ U. U ++ more.0) (goes K policy seed n q.0 q.1) ∙ append_assoc (run n) (f ∷ []) more.0 in (
          q.0,
          subst (λ U. IsBest K policy (words_of_step K seed n) U q.0) before (subst (λ k. IsBest K policy (words_of_step K seed k) (run n) q.0) size best),
          ap (λ U. step_at U n) whole
              ∙ ap (step_at (run n ++ f ∷ more.0)) (sym size)
              ∙ get_or-append_seam (run n) f more.0 []
              ∙ ap (λ U. full_step K U q.0) before,
        );
    ends = λ l s. none-admissible K (run steps) policy (words_of_step K seed (length (run steps))) (short-stops K policy seed steps l) s;
  }
