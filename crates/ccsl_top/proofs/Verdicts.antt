-- The item of a violation is one of the system's.
use Rattle.std.proofs.Common.{◌≡◌, ℕ, zero, suc, ◌<◌, ◌≤◌, List, [], ◌∷◌, ◌++◌, Bool, true, false, Option, Some, None, length, find, cond, is_some, refl, sym}
use Rattle.std.proofs.Common.{ap, subst, arith}
use Rattle.std.proofs.lemmas.Bool.{le-leb}
use Rattle.ccsl_base.specs.declared.rows.Row.{Row}
use Rattle.ccsl_kernel.specs.Syntax.{System, item_count}
use Rattle.ccsl_kernel.specs.Lives.{steps}
use Rattle.ccsl_kernel.specs.Verdict.{Run, Violated, verdict, verdict_at, first_step, first_item, is_violated}

-- every number of a list is below m
abbrev AreBelow : ℕ → List ℕ → Type 0
AreBelow m [] = Unit {0}
AreBelow m (x ∷ xs) = (x < m) × AreBelow m xs

below-push : (m : ℕ) (xs : List ℕ) (x : ℕ) → AreBelow m xs → x < m → AreBelow m (xs ++ x ∷ [])
below-push m [] x b l = (l, record {})
below-push m (y ∷ xs) x b l = (b.0, below-push m xs x b.1 l)

below-steps : (m n : ℕ) → n ≤ m → AreBelow m (steps 0 n)
below-steps m zero l = record {}
below-steps m (suc n) l = subst (AreBelow m) (sym (steps-next n)) (below-push m (steps 0 n) n (below-steps m n (omega (arith, l))) (omega (arith, l)))
  where
    steps-next : (n : ℕ) → steps 0 (suc n) ≡ steps 0 n ++ n ∷ []
    steps-next n = ap (λ b. cond b (steps 0 n ++ n ∷ []) []) (le-leb 0 n (omega arith))

module _ (f : ℕ → Bool) where
  found-below : (m : ℕ) (xs : List ℕ) (k : ℕ) → AreBelow m xs → find f xs ≡ Some k → k < m
  found-below m [] k b e = let clash : (let N : Option ℕ = None in N) ≡ Some k = e in absurd (cc)
  found-below m (x ∷ xs) k b e = by-test (f x) e (λ later. found-below m xs k b.1 later)
    where
      by-test : (t : Bool) → cond t (Some x) (find f xs) ≡ Some k → (find f xs ≡ Some k → k < m) → k < m
      by-test true e more = let same : x ≡ k = cc in subst (λ z. z < m) same b.0
      by-test false e more = more e

  found-holds : (xs : List ℕ) (k : ℕ) → find f xs ≡ Some k → f k ≡ true
  found-holds [] k e = let clash : (let N : Option ℕ = None in N) ≡ Some k = e in absurd (cc)
  found-holds (x ∷ xs) k e = by-test (f x) refl e (λ later. found-holds xs k later)
    where
      by-test : (t : Bool) → f x ≡ t → cond t (Some x) (find f xs) ≡ Some k → (find f xs ≡ Some k → f k ≡ true) → f k ≡ true
      by-test true holds e more = let same : x ≡ k = cc in subst (λ z. f z ≡ true) same holds
      by-test false holds e more = more e

module _ (K : System) (bound : List ℕ) (rows : List Row) (s t i : ℕ) where
  pub violated-item : verdict K bound rows ≡ Violated s t i → i < item_count K
  violated-item e = at-step (first_step K bound rows) refl e
    where
      of-item : (found : Option ℕ) → (n time : ℕ) → first_item K bound rows n ≡ found → is_some found ≡ true →
          verdict_at K bound rows (Some n) ≡ Violated s t i → i < item_count K
      of-item None n time is some v = let clash : false ≡ true = some in absurd (cc)
      of-item (Some j) n time is some v =
          let same : j ≡ i = item-same n j is v in
          subst (λ z. z < item_count K) same
          (found-below (is_violated K bound rows n) (item_count K) (steps 0 (item_count K)) j (below-steps (item_count K) (item_count K) (omega arith)) is)
        where
          item-same : (n j : ℕ) → first_item K bound rows n ≡ Some j → verdict_at K bound rows (Some n) ≡ Violated s t i → j ≡ i
          item-same n j is v = cc

      at-step : (found : Option ℕ) → first_step K bound rows ≡ found → verdict_at K bound rows found ≡ Violated s t i → i < item_count K
      at-step None is v = let clash : Run (length rows) ≡ Violated s t i = v in absurd (cc)
      at-step (Some n) is v =
          of-item (first_item K bound rows n) n 0 refl (found-holds (λ n. is_some (first_item K bound rows n)) (steps 0 (length rows)) n is) v
