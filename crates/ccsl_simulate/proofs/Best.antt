-- Better is an order, so that of some sets one is the best.
use Rattle.std.proofs.Common.{⊎_elim, ◌⊎◌, inl, inr, ◌≡◌, ℕ, ◌<◌, ◌≤◌, List, [], ◌∷◌, Bool, true, false, not, refl, sym, ap, ◌∙◌, subst, arith}
use Rattle.std.proofs.lemmas.Bool.{cases_lt}
use Rattle.ccsl_formula.specs.Formula.{in_set}
use Rattle.ccsl_formula.specs.Truth.{Assignment}
use Rattle.ccsl_kernel.specs.Lives.{Step}
use Rattle.ccsl_policy.specs.declared.policies.Policy.{Policy}
use Rattle.ccsl_policy.specs.Priority.{word_of, comes_before, preferred}
use Rattle.ccsl_policy.specs.Better.{IsBetter}
use Rattle.ccsl_policy.proofs.Order.{is-before, before-trans}
use Rattle.ccsl_simulate.specs.Chosen.{is_better}
use Rattle.ccsl_items.proofs.Among.{Among}
use Rattle.ccsl_simulate.proofs.Better.{better-is, is-better}

-- of two clocks one comes first
order_of : (words : List ℕ) (c d : ℕ) → (comes_before words c d ≡ true) ⊎ ((c ≡ d) ⊎ (comes_before words d c ≡ true))
order_of words c d =
    let u = word_of words c in
    let v = word_of words d in
    ⊎_elim
    (λ (l : u < v). inl (is-before words c d (inl l)))
    (λ (l : v ≤ u).
    ⊎_elim
    (λ (m : v < u). inr (inr (is-before words d c (inl m))))
    (λ (m : u ≤ v).
    let e : u ≡ v = omega arith in
    ⊎_elim
    (λ (k : c < d). inl (is-before words c d (inr (e, k))))
    (λ (k : d ≤ c).
    ⊎_elim
    (λ (j : d < c). inr (inr (is-before words d c (inr (sym e, j)))))
    (λ (j : c ≤ d). let same : c ≡ d = omega arith in inr (inl same))
    (cases_lt d c))
    (cases_lt c d))
    (cases_lt v u))
    (cases_lt u v)

not-itself : (b : Bool) → b ≡ not b → ⊥
not-itself true e = cc
not-itself false e = cc

module _ (m : ℕ) (policy : Policy) (words : List ℕ) where
  better-trans : (s t u : Assignment) → IsBetter m policy words s t → IsBetter m policy words t u → IsBetter m policy words s u
  better-trans s t u h g =
      let c = h.clock in
      let d = g.clock in
      ⊎_elim
      (λ first. record {
        clock = c;
        declared = h.declared;
        differ = h.differ ∙ ap not (g.before c h.declared first);
        preferred = h.preferred;
        before = λ x l b. h.before x l b ∙ g.before x l (before-trans words x c d b first);
      })
      (λ rest.
      ⊎_elim
      (λ (e : c ≡ d).
      let there : t c ≡ preferred policy (word_of words c) = ap t e ∙ g.preferred ∙ ap (λ x. preferred policy (word_of words x)) (sym e) in
      absurd (not-itself (t c) (there ∙ sym h.preferred ∙ h.differ)))
      (λ later. record {
        clock = d;
        declared = g.declared;
        differ = h.before d g.declared later ∙ g.differ;
        preferred = h.before d g.declared later ∙ g.preferred;
        before = λ x l b. h.before x l (before-trans words x d c b later) ∙ g.before x l b;
      })
      rest)
      (order_of words c d)

  better-itself : (s : Assignment) → IsBetter m policy words s s → ⊥
  better-itself s h = not-itself (s h.clock) h.differ

  -- one of the sets, than which none of them is better
  pub record BestOf (xs : List Step) : Type 0 where
    pub set : Step
    pub among : Among set xs
    pub best : (t : Step) → Among t xs → IsBetter m policy words (in_set t) (in_set set) → ⊥

  pub best_of : (x : Step) (xs : List Step) → BestOf (x ∷ xs)
  best_of x [] = record {
    set = x;
    among = inl refl;
    best = λ t a h. ⊎_elim (λ e. better-itself (in_set t) (subst (λ s. IsBetter m policy words (in_set t) (in_set s)) e h)) (λ z. absurd z) a;
  }
  best_of x (y ∷ ys) =
      let q = best_of y ys in
      (elim (is_better m policy words x q.set) as (λ b. is_better m policy words x q.set ≡ b → BestOf (x ∷ y ∷ ys)) [
        | true ↦ λ e. record {
          set = x;
          among = inl refl;
          best = λ t a h.
              ⊎_elim
              (λ s. better-itself (in_set t) (subst (λ s. IsBetter m policy words (in_set t) (in_set s)) s h))
              (λ r. q.best t r (better-trans (in_set t) (in_set x) (in_set q.set) h (better-is m policy words x q.set e)))
              a;
        }
        | false ↦ λ e. record {
          set = q.set;
          among = inr q.among;
          best = λ t a h.
              ⊎_elim
              (λ s. let bad : true ≡ false =
              sym (is-better m policy words x q.set (subst (λ r. IsBetter m policy words (in_set r) (in_set q.set)) (sym s) h)) ∙ e in absurd (cc))
              (λ r. q.best t r h)
              a;
        }
      ]) refl
