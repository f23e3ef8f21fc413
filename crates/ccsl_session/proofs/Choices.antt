-- What the choice by the items' formulas answers is the set that is chosen for the next step.
use Rattle.std.proofs.Common.{◌≡◌, ℕ, ◌+◌, ◌*◌, List, [], ◌∷◌, length, filter, Bool, true, false, cond, nat_lt, Some, None, refl, sym, ap, ◌∙◌, subst, arith}
use Rattle.std.proofs.Common.{lt-ltb}
use Rattle.std.specs.declared.result.Result.{Result}
use Rattle.std.specs.Result.{IfOk}
use Rattle.std.specs.List.{list_all}
use Rattle.std.proofs.lemmas.Bool.{and_parts, and_from}
use Rattle.ccsl_base.specs.declared.memory.Memory.{Memory}
use Rattle.ccsl_base.specs.Clocks.{is_ascending, are_below}
use Rattle.ccsl_formula.specs.declared.scope.Scope.{Scope}
use Rattle.ccsl_formula.specs.Formula.{Formula}
use Rattle.ccsl_refute.specs.declared.line.Line.{Line}
use Rattle.ccsl_kernel.specs.Syntax.{System}
use Rattle.ccsl_kernel.specs.Lives.{Step, steps}
use Rattle.ccsl_kernel.specs.Accepted.{IsAccepted}
use Rattle.ccsl_kernel.specs.Runs.{completed, declared_part}
use Rattle.ccsl_kernel.proofs.Completion.{length-completed}
use Rattle.ccsl_kernel.proofs.Sets.{are_below-more}
use Rattle.ccsl_items.specs.Formulas.{item_formulas, scope_of}
use Rattle.ccsl_items.specs.Laws.{IsSolution}
use Rattle.ccsl_items.proofs.Sets.{below-members}
use Rattle.ccsl_policy.specs.declared.policies.Policy.{Policy}
use Rattle.ccsl_policy.specs.declared.choice.Choice.{Choice}
use Rattle.ccsl_policy.specs.Chosen.{IsChosen, IsDeadlock, Chooses}
use Rattle.ccsl_policy.specs.Words.{words_from}
use Rattle.ccsl_simulate.specs.Simulation.{words_of_step}
use Rattle.ccsl_items.proofs.Numbers.{all_below}
use Rattle.ccsl_simulate.proofs.Choosing.{choice-chosen, deadlock-chosen, chosen-best}
use Rattle.ccsl_possible.specs.Possible.{is_allowed, allowed_clocks}
use Rattle.ccsl_session.specs.Answers.{next_set}
use Rattle.ccsl_session.specs.Laws.{IsStack}
use Rattle.ccsl_session.proofs.Stacks.{stack-runs}

-- a choice by equal formulas and words is the same
pub chooses-at : (policy : Policy) (s t : Scope) (f g : List Formula) (v w : List ℕ) (r : Result Choice Memory) → s ≡ t → f ≡ g → v ≡ w →
    IfOk r (λ choice. Chooses s f policy v choice) → IfOk r (λ choice. Chooses t g policy w choice)
chooses-at policy s t f g v w r a b c h =
    subst (λ (x : Scope). IfOk r (λ choice. Chooses x g policy w choice)) a
    (subst (λ (x : List Formula). IfOk r (λ choice. Chooses s x policy w choice)) b
    (subst (λ (x : List ℕ). IfOk r (λ choice. Chooses s f policy x choice)) c h))

-- the words of a stack's next step
pub step-words : (K : System) (R : List Step) (seed count declared taken : ℕ) → count ≡ length R → declared ≡ K.declared → taken ≡ count * declared →
    words_from seed taken declared ≡ words_of_step K seed (length (completed K R))
step-words K R seed count declared taken c d t =
    let run : count ≡ length (completed K R) = omega (arith, length-completed K R []) in
    ap (λ j. words_from seed j declared) (t ∙ ap (λ n. n * declared) run) ∙ ap (λ n. words_from seed (length (completed K R) * n) n) d

module _ (K : System) (ok : IsAccepted K) (policy : Policy) (seed : ℕ) (R : List Step) (stack : IsStack K R) where
  abbrev T : List Step
  T = completed K R

  abbrev words : List ℕ
  words = words_of_step K seed (length T)

  solution : (u : Step) → is_ascending u ≡ true → IsChosen (scope_of K) (item_formulas K T) policy words u → IsSolution K T u
  solution u a c = record {
    named =
        and_from (is_ascending u) (are_below (K.declared + length K.definitions) u) a
        (below-members (K.declared + length K.definitions) u (λ x t. let low = c.inside x t in omega (arith, low, ok.defined)));
    solves = c.solves;
  }

  pub step-next : (u s : Step) → is_ascending u ≡ true → IsChosen (scope_of K) (item_formulas K T) policy words u → s ≡ declared_part K u
      → Some s ≡ next_set K policy seed R
  step-next u s a c e =
      ap (λ x. Some x) e ∙ sym (choice-chosen K T policy words ok (stack-runs K ok R stack) u (solution u a c) c)

  pub deadlock-next : (lines : List Line) → IsDeadlock (scope_of K) (item_formulas K T) lines → None ≡ next_set K policy seed R
  deadlock-next lines d = sym (deadlock-chosen K T policy words ok (stack-runs K ok R stack) lines d)

  -- the clocks of a chosen set have names
  pub next-named : (s : Step) → Some s ≡ next_set K policy seed R → are_below (length K.names) s ≡ true
  next-named s e =
      let best = chosen-best K T policy words s (sym e) in
      are_below-more K.declared (length K.names) s (omega (arith, ok.declared, ok.written))
      (and_parts (is_ascending s) (are_below K.declared s) best.admissible.declared).1

-- those that are allowed, too
filter-all : (p q : ℕ → Bool) (xs : List ℕ) → list_all p xs ≡ true → list_all p (filter q xs) ≡ true
filter-all p q [] h = refl
filter-all p q (x ∷ xs) h =
    let w = and_parts (p x) (list_all p xs) h in
    let rest = filter-all p q xs w.1 in
    elim (q x) as (λ b. list_all p (cond b (x ∷ filter q xs) (filter q xs)) ≡ true) [ true ↦ and_from (p x) (list_all p (filter q xs)) w.0 rest | false ↦ rest ]

pub allowed-named : (K : System) (ok : IsAccepted K) (T : List Step) → are_below (length K.names) (allowed_clocks K T) ≡ true
allowed-named K ok T =
    filter-all (λ x. nat_lt x (length K.names)) (is_allowed K T) (steps 0 K.declared)
    (all_below (λ x. nat_lt x (length K.names)) K.declared (λ i l. lt-ltb i (length K.names) (omega (arith, ok.declared, ok.written))))
