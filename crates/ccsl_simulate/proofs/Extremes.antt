-- Each step of a simulation: its declared members were chosen, under min or max the least or the most of those that are admissible.
use Rattle.std.proofs.Common.{◌≡◌, ℕ, ◌<◌, List, length, take, not, sym, ap, ◌∙◌, subst, ⊎_elim, arith}
use Rattle.std.proofs.lemmas.Bool.{and_parts}
use Rattle.ccsl_base.specs.Clocks.{ticks_in, is_ascending, are_below}
use Rattle.ccsl_formula.specs.Formula.{in_set}
use Rattle.ccsl_kernel.specs.Syntax.{System}
use Rattle.ccsl_kernel.specs.Accepted.{IsAccepted}
use Rattle.ccsl_kernel.specs.Lives.{Step, step_at}
use Rattle.ccsl_kernel.specs.Runs.{IsAdmissible, declared_part, full_step}
use Rattle.ccsl_items.specs.Laws.{IsNamedRun}
use Rattle.ccsl_items.proofs.Solutions.{admissible_solution, solution_full}
use Rattle.ccsl_policy.specs.declared.policies.Policy.{Policy}
use Rattle.ccsl_policy.specs.declared.policies.Policy.TheVariants.{Min, Max}
use Rattle.ccsl_policy.specs.Priority.{word_of, preferred}
use Rattle.ccsl_policy.proofs.First.{IsFirst, first-or-same, both-ways, from-not}
use Rattle.ccsl_simulate.specs.Simulation.{words_of_step, simulation}
use Rattle.ccsl_simulate.specs.Laws.{IsBest, IsSimulation}
use Rattle.ccsl_simulate.specs.Ends.{IsPart, declared_at, IsMinimalStep, IsMaximalStep}
use Rattle.ccsl_simulate.proofs.OneSimulation.{is-simulation}
use Rattle.ccsl_simulate.proofs.Runs.{named_run, front}
use Rattle.ccsl_items.proofs.SetsBelow.{IsSetBelow, one_set}

set-below : (K : System) (T : List Step) (s : Step) → IsAdmissible K T s → IsSetBelow K.declared s
set-below K T s a = let d = and_parts (is_ascending s) (are_below K.declared s) a.declared in record { ascending = d.0; below = d.1 }

-- an admissible set that is part of the best one under min is that one, and so is one that it is part of under max
module _ (K : System) (words : List ℕ) (T : List Step) (r s : Step) (a : IsAdmissible K T r) where
  best-is : (policy : Policy) → IsBest K policy words T s →
      ((c : ℕ) → ticks_in c r ≡ not (ticks_in c s) → ticks_in c r ≡ preferred policy (word_of words c)) → r ≡ s
  best-is policy b preferred = one_set K.declared r s (set-below K T r a) (set-below K T s b.admissible)
      (⊎_elim
      (λ (f : IsFirst K.declared words (in_set r) (in_set s)).
      absurd (b.best r a (record {
        clock = f.clock;
        declared = f.below;
        differ = f.differ;
        preferred = preferred f.clock f.differ;
        before = f.before;
      })))
      (λ same. same)
      (first-or-same K.declared words (in_set r) (in_set s)))

  least-is : IsBest K Min words T s → IsPart r s → r ≡ s
  least-is b h = best-is Min b (λ c. both-ways (ticks_in c r) (ticks_in c s) (h c))

  most-is : IsBest K Max words T s → IsPart s r → r ≡ s
  most-is b h = best-is Max b (λ c. from-not (ticks_in c r) (ticks_in c s) (h c))

-- the declared members of a step are the set that was chosen for it
module _ (K : System) (ok : IsAccepted K) (policy : Policy) (seed steps n : ℕ) (l : n < length (simulation K policy seed steps)) where
  it : IsSimulation K policy seed steps (simulation K policy seed steps)
  it = is-simulation K policy seed steps

  run-before : IsNamedRun K (take n (simulation K policy seed steps))
  run-before =
      let few = it.few in
      subst (IsNamedRun K) (front K policy seed n steps (omega (arith, l, few))) (named_run K policy seed ok n)

  chosen-at : IsBest K policy (words_of_step K seed n) (take n (simulation K policy seed steps)) (declared_at K (simulation K policy seed steps) n)
  chosen-at =
      let q = it.each n l in
      let before = take n (simulation K policy seed steps) in
      let u = admissible_solution K ok before run-before q.0 q.1.admissible in
      let step-is : step_at (simulation K policy seed steps) n ≡ u.0 =
      q.2 ∙ ap (full_step K before) (sym u.2) ∙ (solution_full K ok before run-before u.0 u.1).declared in
      let part : q.0 ≡ declared_part K (step_at (simulation K policy seed steps) n) = sym (ap (declared_part K) step-is ∙ u.2) in
      subst (IsBest K policy (words_of_step K seed n) before) part q.1

module _ (K : System) (ok : IsAccepted K) (seed steps n : ℕ) where
  pub minimal-step : n < length (simulation K Min seed steps) → IsMinimalStep K (simulation K Min seed steps) n
  minimal-step l =
      let T = simulation K Min seed steps in
      let best = chosen-at K ok Min seed steps n l in
      record { admissible = best.admissible; none_less = λ s a h. least-is K (words_of_step K seed n) (take n T) s (declared_at K T n) a best h }

  pub maximal-step : n < length (simulation K Max seed steps) → IsMaximalStep K (simulation K Max seed steps) n
  maximal-step l =
      let T = simulation K Max seed steps in
      let best = chosen-at K ok Max seed steps n l in
      record { admissible = best.admissible; none_more = λ s a h. most-is K (words_of_step K seed n) (take n T) s (declared_at K T n) a best h }
