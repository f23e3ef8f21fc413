-- The verdict is the first violation, where there is one, and a run where there is none.
use Rattle.std.proofs.Common.{◌≡◌, ℕ, zero, suc, ◌<◌, ◌≤◌, ⊎_elim, List, map, length, get_or, find, Bool, true, false, Some, None, unwrap_or, refl, sym, ap}
use Rattle.std.proofs.Common.{ap₂, ◌∙◌, arith}
use Rattle.std.specs.Prelude.{is_some}
use Rattle.std.proofs.lemmas.Bool.{cases_lt}
use Rattle.ccsl_base.specs.declared.rows.Row.{Row}
use Rattle.ccsl_kernel.specs.Syntax.{System, item_count}
use Rattle.ccsl_kernel.specs.Lives.{steps}
use Rattle.ccsl_kernel.specs.Verdict.{Run, Violated, is_violated, first_item, verdict_at, verdict}
use Rattle.ccsl_kernel.specs.FirstViolation.{IsFirstViolation}
use Rattle.ccsl_kernel.proofs.Steps.{find-steps-suc, or_else, if_at}

pub find-nowhere : (f : ℕ → Bool) (n : ℕ) → ((i : ℕ) → i < n → f i ≡ false) → find f (steps 0 n) ≡ None
find-nowhere f zero h = refl
find-nowhere f (suc n) h =
    find-steps-suc f 0 n (omega arith) ∙ ap₂ (λ o t. or_else o (if_at t n)) (find-nowhere f n (λ i l. h i (omega arith))) (h n (omega arith))

pub find-first : (f : ℕ → Bool) (n k : ℕ) → k < n → f k ≡ true → ((i : ℕ) → i < k → f i ≡ false) → find f (steps 0 n) ≡ Some k
find-first f zero k l here before = let z : ⊥ = omega arith in absurd z
find-first f (suc n) k l here before =
    find-steps-suc f 0 n (omega arith)
    ∙ ⊎_elim
    (λ (m : k < n). ap (λ o. or_else o (if_at (f n) n)) (find-first f n k m here before))
    (λ (m : n ≤ k).
    let at : k ≡ n = omega arith in
    ap₂ (λ o t. or_else o (if_at t n)) (find-nowhere f n (λ i l. before i (omega arith))) (ap f (sym at) ∙ here) ∙ ap Some (sym at))
    (cases_lt k n)

module _ (K : System) (bound : List ℕ) (rows : List Row) where
  none_at : (n : ℕ) → ((j : ℕ) → j < item_count K → is_violated K bound rows n j ≡ false) → first_item K bound rows n ≡ None
  none_at n h = find-nowhere (is_violated K bound rows n) (item_count K) h

  pub verdict-run : ((n j : ℕ) → n < length rows → j < item_count K → is_violated K bound rows n j ≡ false) → verdict K bound rows ≡ Run (length rows)
  verdict-run h =
      ap (verdict_at K bound rows) (find-nowhere (λ n. is_some (first_item K bound rows n)) (length rows) (λ n l. ap is_some (none_at n (λ j m. h n j l m))))

  pub verdict-violated : (s i : ℕ) → IsFirstViolation K bound rows s i → verdict K bound rows ≡ Violated s (get_or (map (λ (row : Row). row.time) rows) s 0) i
  verdict-violated s i v =
      let item : first_item K bound rows s ≡ Some i = find-first (is_violated K bound rows s) (item_count K) i v.item v.violated v.lower in
      ap (verdict_at K bound rows)
      (find-first (λ n. is_some (first_item K bound rows n)) (length rows) s v.step (ap is_some item)
      (λ n l. ap is_some (none_at n (λ j m. v.earlier n j l m))))
      ∙ ap (λ o. Violated s (get_or (map (λ (row : Row). row.time) rows) s 0) (unwrap_or o 0)) item
