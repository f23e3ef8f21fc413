-- One turn: what the choice answers is the next step of the run, or the run has stopped.
use Rattle.std.proofs.Common.{◌≡◌, ℕ, suc, ◌+◌, List, [], ◌∷◌, ◌++◌, length, true, Some, sym, ap, ◌∙◌, subst, arith}
use Rattle.std.proofs.lemmas.Bool.{and_from}
use Rattle.ccsl_base.specs.Clocks.{is_ascending, are_below}
use Rattle.ccsl_refute.specs.declared.line.Line.{Line}
use Rattle.ccsl_kernel.specs.Syntax.{System}
use Rattle.ccsl_kernel.specs.Lives.{Step}
use Rattle.ccsl_kernel.specs.Accepted.{IsAccepted}
use Rattle.ccsl_kernel.specs.Runs.{full_step, declared_part}
use Rattle.ccsl_items.specs.Formulas.{item_formulas, scope_of}
use Rattle.ccsl_items.specs.Laws.{IsSolution}
use Rattle.ccsl_items.proofs.Sets.{below-members}
use Rattle.ccsl_items.proofs.Solutions.{solution_full}
use Rattle.ccsl_policy.specs.declared.policies.Policy.{Policy}
use Rattle.ccsl_policy.specs.Chosen.{IsChosen, IsDeadlock}
use Rattle.ccsl_simulate.specs.Simulation.{words_of_step, simulation}
use Rattle.ccsl_simulate.proofs.Choosing.{choice-chosen, deadlock-chosen}
use Rattle.ccsl_simulate.proofs.Runs.{chosen_after, goes, stopped, named_run}

module _ (K : System) (ok : IsAccepted K) (policy : Policy) (seed n : ℕ) (size : length (simulation K policy seed n) ≡ n) where
  abbrev T : List Step
  T = simulation K policy seed n

  solution : (u : Step) → is_ascending u ≡ true → IsChosen (scope_of K) (item_formulas K T) policy (words_of_step K seed n) u → IsSolution K T u
  solution u a c = record {
    named =
        and_from (is_ascending u) (are_below (K.declared + length K.definitions) u) a
        (below-members (K.declared + length K.definitions) u (λ x t. let low = c.inside x t in omega (arith, low, ok.defined)));
    solves = c.solves;
  }

  -- a chosen set is the next step, and the full step of itself
  pub next-step : (u : Step) → is_ascending u ≡ true → IsChosen (scope_of K) (item_formulas K T) policy (words_of_step K seed n) u
      → (simulation K policy seed (suc n) ≡ T ++ u ∷ []) × (full_step K T u ≡ u)
  next-step u a c =
      let run = named_run K policy seed ok n in
      let h = solution u a c in
      let full = solution_full K ok T run u h in
      let chosen : chosen_after K policy seed n ≡ Some (declared_part K u) =
      choice-chosen K T policy (words_of_step K seed (length T)) ok run u h
      (subst (λ k. IsChosen (scope_of K) (item_formulas K T) policy (words_of_step K seed k) u) (sym size) c) in
      (goes K policy seed n (declared_part K u) chosen ∙ ap (λ f. T ++ f ∷ []) full.declared, full.itself)

  -- at a deadlock it has stopped
  pub stopped-there : (lines : List Line) → IsDeadlock (scope_of K) (item_formulas K T) lines → (k : ℕ) → simulation K policy seed (n + k) ≡ T
  stopped-there lines d k =
      stopped K policy seed n k (deadlock-chosen K T policy (words_of_step K seed (length T)) ok (named_run K policy seed ok n) lines d)
