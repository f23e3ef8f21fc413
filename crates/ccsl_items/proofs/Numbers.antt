-- Tests of all numbers below a bound, and of some.
use Rattle.std.proofs.Common.{⊎_elim, ◌≡◌, ℕ, zero, suc, ◌<◌, ◌≤◌, [], ◌∷◌, Bool, true, false, ◌&&◌, ◌||◌, refl, sym, ap, ◌∙◌, arith}
use Rattle.std.specs.List.{list_all, list_any}
use Rattle.std.proofs.lemmas.List.Folds.{list_all-append, list_any-append}
use Rattle.std.proofs.lemmas.Bool.{cases_lt, and_parts, and_from}
use Rattle.std.proofs.Math.Bool.{or-true}
use Rattle.ccsl_kernel.specs.Lives.{steps}
use Rattle.ccsl_kernel.proofs.Steps.{steps-suc}

all-suc : (f : ℕ → Bool) (n : ℕ) → list_all f (steps 0 (suc n)) ≡ (list_all f (steps 0 n) && (f n && true))
all-suc f n = ap (list_all f) (steps-suc 0 n (omega arith)) ∙ list_all-append f (steps 0 n) (n ∷ [])

pub each_below : (f : ℕ → Bool) (n : ℕ) → list_all f (steps 0 n) ≡ true → (i : ℕ) → i < n → f i ≡ true
each_below f zero h i l = let z : ⊥ = omega arith in absurd z
each_below f (suc n) h i l =
    let w = and_parts (list_all f (steps 0 n)) (f n && true) (sym (all-suc f n) ∙ h) in
    ⊎_elim
    (λ (m : i < n). each_below f n w.0 i m)
    (λ (m : n ≤ i). let at : i ≡ n = omega arith in ap f at ∙ (and_parts (f n) true w.1).0)
    (cases_lt i n)

pub all_below : (f : ℕ → Bool) (n : ℕ) → ((i : ℕ) → i < n → f i ≡ true) → list_all f (steps 0 n) ≡ true
all_below f zero h = refl
all_below f (suc n) h =
    all-suc f n
    ∙ and_from (list_all f (steps 0 n)) (f n && true) (all_below f n (λ i l. h i (omega arith))) (and_from (f n) true (h n (omega arith)) refl)

any-suc : (f : ℕ → Bool) (n : ℕ) → list_any f (steps 0 (suc n)) ≡ (list_any f (steps 0 n) || (f n || false))
any-suc f n = ap (list_any f) (steps-suc 0 n (omega arith)) ∙ list_any-append f (steps 0 n) (n ∷ [])

pub some_below : (f : ℕ → Bool) (n i : ℕ) → i < n → f i ≡ true → list_any f (steps 0 n) ≡ true
some_below f zero i l h = let z : ⊥ = omega arith in absurd z
some_below f (suc n) i l h =
    any-suc f n
    ∙ ⊎_elim
    (λ (m : i < n). ap (λ b. b || (f n || false)) (some_below f n i m h))
    (λ (m : n ≤ i). let at : n ≡ i = omega arith in ap (λ b. list_any f (steps 0 n) || (b || false)) (ap f at ∙ h) ∙ or-true (list_any f (steps 0 n)))
    (cases_lt i n)

pub any_below : (f : ℕ → Bool) (n : ℕ) → list_any f (steps 0 n) ≡ true → (i : ℕ) × (i < n) × (f i ≡ true)
any_below f zero h = absurd (cc)
any_below f (suc n) h =
    let last : f n ≡ true → (i : ℕ) × (i < suc n) × (f i ≡ true) = λ e. (n, omega arith, e) in
    (elim (list_any f (steps 0 n)) as (λ b. list_any f (steps 0 n) ≡ b → (b || (f n || false)) ≡ true → (i : ℕ) × (i < suc n) × (f i ≡ true)) [
      | true ↦ λ e g. let q = any_below f n e in let l : q.0 < suc n = omega (arith, q.1) in (q.0, l, q.2)
      | false ↦ λ e g. last (only (f n) g)
    ]) refl (sym (any-suc f n) ∙ h)
  where
    only : (b : Bool) → (b || false) ≡ true → b ≡ true
    only true g = refl
    only false g = g
