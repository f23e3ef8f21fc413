-- Items are taken out one after the other.
use Rattle.std.proofs.Common.{◌≡◌, ◌≢◌, ℕ, zero, suc, ◌<◌, ◌+◌, List, [], ◌∷◌, ◌++◌, length, Bool, true, false, Some, slice_get, slice_set, refl, sym, ap}
use Rattle.std.proofs.Common.{subst, ◌∙◌, ⊎_elim, inl, inr, arith}
use Rattle.std.specs.List.{All, Contains}
use Rattle.std.proofs.lemmas.Bool.{cases_eq}
use Rattle.std.proofs.lemmas.List.Elements.{All-weaker, All-push, All-contains, Contains-append_left, Contains-push, Contains-push_cases}
use Rattle.std.proofs.lemmas.Option.{slice_get_within}
use Rattle.ccsl_formula.specs.declared.scope.Scope.{Scope}
use Rattle.ccsl_formula.specs.Formula.{Formula, FTrue}
use Rattle.ccsl_refute.specs.Meaning.{Blocks}
use Rattle.ccsl_explain.specs.Asked.{HasStep}
use Rattle.ccsl_explain.specs.Core.{Block, AreOpen, BesideIt, IsCore}
use Rattle.ccsl_explain.specs.Deletion.{Stays, IsLeft, IsCoreBelow}
use Rattle.ccsl_explain.specs.Masked.{without, IsMasked}
use Rattle.ccsl_explain.specs.Used.{IsUsed}
use Rattle.ccsl_explain.proofs.Items.{fewer-open, more-block, all-block}
use Rattle.ccsl_explain.proofs.Masks.{get-other, without-masked, block-masked, open-masked}
use Rattle.ccsl_explain.proofs.Members.{ascending-push}

set-back : {A : Type 0} (xs : List A) (i : ℕ) (a y : A) → slice_get xs i ≡ Some y → slice_set (slice_set xs i a) i y ≡ xs
set-back [] i a y e = refl
set-back (x ∷ xs) zero a y e = let q : y ≡ x = cc in ap (λ z. z ∷ xs) q
set-back (x ∷ xs) (suc i) a y e = ap (λ zs. x ∷ zs) (set-back xs i a y e)

-- an item that was taken out is put back
pub put-back : {A : Type 0} (xs ts ys : List A) (i : ℕ) (a y : A) → ts ≡ slice_set xs i a → slice_get xs i ≡ Some y → ys ≡ slice_set ts i y → ys ≡ xs
put-back xs ts ys i a y out was back = back ∙ ap (λ zs. slice_set zs i y) out ∙ set-back xs i a y was

-- the items in use block without one that is not
pub unused-block : (scope : Scope) (fs : List Formula) (us : List Bool) (i : ℕ) → slice_get us i ≡ Some false → Block scope fs (IsUsed us)
    → Block scope (without fs i) (IsUsed us)
unused-block scope fs us i n b = λ set s. b set (record {
  member = s.member;
  each = λ j f u g. s.each j f u (get-other fs i j FTrue (λ e. u (subst (λ k. slice_get us k ≡ Some false) (sym e) n)) ∙ g);
})

module _ (scope : Scope) (fs ms : List Formula) (core : List ℕ) (n : ℕ) (h : IsCoreBelow scope fs n core) (m : IsMasked fs (IsLeft core n) ms) where
  -- what stands beside item n, where a core agrees with this one below it
  beside-masked : (core' : List ℕ) → ((j : ℕ) → j < n → Contains core' j → Contains core j) → ((j : ℕ) → Contains core j → Contains core' j)
      → IsMasked fs (BesideIt core' n) (without ms n)
  beside-masked core' to from = without-masked fs ms (IsLeft core n) (BesideIt core' n) n m
      (λ j p. ⊎_elim (λ q. (inl (to j q.1 q.0, q.1), omega (arith, q.1))) (λ q. (inr (omega (arith, q)), omega (arith, q))) p)
      (λ j p d. ⊎_elim (λ q. inl (from j q.0, q.1)) (λ q. inr (omega (arith, q, d))) p)

  below : (j : ℕ) → Contains core j → j < n
  below j c = All-contains (λ i. i < n) core j h.items c

  -- item n goes
  goes-core : Blocks scope (without ms n) → IsCoreBelow scope fs (n + 1) core
  goes-core b = record {
    ascending = h.ascending;
    items = All-weaker (λ i. i < n) (λ i. i < n + 1) (λ i l. omega arith) core h.items;
    kept = h.kept;
    dropped = λ i l c.
        ⊎_elim
        (λ e. subst (λ k. Block scope fs (BesideIt core k)) (sym e)
        (block-masked scope fs (without ms n) (BesideIt core n) (beside-masked core (λ j k p. p) (λ j p. p)) b))
        (λ d. h.dropped i (omega (arith, l, d)) c)
        (cases_eq i n);
  }

  goes-left : IsMasked fs (IsLeft core (n + 1)) (without ms n)
  goes-left = without-masked fs ms (IsLeft core n) (IsLeft core (n + 1)) n m
      (λ j p. ⊎_elim (λ q. let l : j < n = below j q.0 in (inl (q.0, l), omega (arith, l))) (λ q. (inr (omega (arith, q)), omega (arith, q))) p)
      (λ j p d. ⊎_elim (λ q. inl (q.0, omega (arith, q.1))) (λ q. inr (omega (arith, q, d))) p)

  -- item n stays
  pulled : (j : ℕ) → j < n → Contains (core ++ n ∷ []) j → Contains core j
  pulled j l c = ⊎_elim (λ p. p) (λ e. absurd (omega (arith, l, e))) (Contains-push_cases core n j c)

  pushed : (j : ℕ) → Contains core j → Contains (core ++ n ∷ []) j
  pushed j c = Contains-append_left core (n ∷ []) j c

  stays-core : HasStep scope (without ms n) → IsCoreBelow scope fs (n + 1) (core ++ n ∷ [])
  stays-core s = record {
    ascending = ascending-push core n h.ascending h.items;
    items = All-push (λ i. i < n + 1) core n (All-weaker (λ i. i < n) (λ i. i < n + 1) (λ i l. omega arith) core h.items) (omega arith);
    kept = All-push (λ i. AreOpen scope fs (BesideIt (core ++ n ∷ []) i)) core n
        (λ k d l. fewer-open scope fs (BesideIt core _) (BesideIt (core ++ n ∷ []) _)
        (λ j p. ⊎_elim (λ q. inl (pulled j (omega (arith, q.1, h.items k d l)) q.0, q.1)) inr p) (h.kept k d l))
        (open-masked scope fs (without ms n) (BesideIt (core ++ n ∷ []) n) (beside-masked (core ++ n ∷ []) pulled pushed) s);
    dropped = λ i l c.
        let other : i ≢ n = λ e. c (subst (Contains (core ++ n ∷ [])) (sym e) (Contains-push core n)) in
        more-block scope fs (BesideIt (core ++ n ∷ []) i) (BesideIt core i) (λ j p. ⊎_elim (λ q. inl (pushed j q.0, q.1)) inr p)
        (h.dropped i (omega (arith, l, other)) (λ p. c (pushed i p)));
  }

  stays-left : IsMasked fs (IsLeft (core ++ n ∷ []) (n + 1)) ms
  stays-left = record {
    kept = λ j f p g. m.kept j f (pull j p) g;
    others = λ j f g. ⊎_elim inl (λ p. inr (push j p.0, p.1)) (m.others j f g);
  }
    where
      pull : (j : ℕ) → IsLeft (core ++ n ∷ []) (n + 1) j → IsLeft core n j
      pull j p = ⊎_elim (λ q. ⊎_elim (λ c. inl (c, below j c)) (λ e. inr (omega (arith, e))) (Contains-push_cases core n j q.0)) (λ q. inr (omega (arith, q))) p

      push : (j : ℕ) → IsLeft core n j → IsLeft (core ++ n ∷ []) (n + 1) j
      push j p = ⊎_elim (λ q. inl (pushed j q.0, omega (arith, q.1)))
          (λ q. ⊎_elim (λ e. inl (subst (Contains (core ++ n ∷ [])) (sym e) (Contains-push core n), omega (arith, e))) (λ d. inr (omega (arith, q, d)))
          (cases_eq j n)) p

  -- the next item, where it stays or goes
  pub next-stays : (next : List Formula) → Stays scope ms next n true →
      IsCoreBelow scope fs (n + 1) (core ++ n ∷ []) × IsMasked fs (IsLeft (core ++ n ∷ []) (n + 1)) next
  next-stays next s = (stays-core s.1, subst (λ (xs : List Formula). IsMasked fs (IsLeft (core ++ n ∷ []) (n + 1)) xs) (sym s.0) stays-left)

  pub next-goes : (next : List Formula) (us : List Bool) → Stays scope ms next n false → Block scope next (IsUsed us) →
      IsCoreBelow scope fs (n + 1) core × IsMasked fs (IsLeft core (n + 1)) next
  next-goes next us s b = (
    goes-core (all-block scope (without ms n) (IsUsed us) (subst (λ (xs : List Formula). Block scope xs (IsUsed us)) s b)),
    subst (λ (xs : List Formula). IsMasked fs (IsLeft core (n + 1)) xs) (sym s) goes-left,
  )

-- all items are decided
pub core-all : (scope : Scope) (fs : List Formula) (n : ℕ) (core : List ℕ) → n ≡ length fs → IsCoreBelow scope fs n core → IsCore scope fs core
core-all scope fs n core e h = record {
  ascending = h.ascending;
  items = subst (λ k. All (λ i. i < k) core) e h.items;
  kept = h.kept;
  dropped = λ i l c. h.dropped i (omega (arith, e, l)) c;
}

pub left-all : (fs ms : List Formula) (n : ℕ) (core : List ℕ) → n ≡ length fs → All (λ i. i < n) core → IsMasked fs (IsLeft core n) ms
    → IsMasked fs (Contains core) ms
left-all fs ms n core e b m = record {
  kept = λ j f c g. m.kept j f (inl (c, All-contains (λ i. i < n) core j b c)) g;
  others = λ j f g.
      ⊎_elim inl
      (λ p. ⊎_elim (λ q. inr (q.0, p.1)) (λ q. let l : j < length fs = slice_get_within fs j f p.1 in absurd (omega (arith, q, l, e))) p.0)
      (m.others j f g);
}
