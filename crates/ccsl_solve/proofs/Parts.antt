-- Laws of partial assignments.
use Rattle.std.proofs.Common.{◌≡◌, ◌≢◌, ℕ, zero, suc, ◌<◌, ◌≤◌, Bool, true, false, cond, refl, sym, ap, ◌∙◌, ⊎_elim, inl, inr, subst, arith}
use Rattle.std.proofs.Math.Path.{fun_ext}
use Rattle.std.proofs.lemmas.Bool.{cases_eq}
use Rattle.ccsl_formula.specs.declared.truth3.Truth3.TheVariants.{Open}
use Rattle.ccsl_formula.specs.Truth.{known_as, Part, with_value}
use Rattle.ccsl_formula.specs.Agreement.{is_open}
use Rattle.ccsl_formula.specs.Known.{with_truth}
use Rattle.ccsl_solve.specs.Under.{Under, IsInside, open_count}
use Rattle.ccsl_solve.proofs.Tests.{test_other, open-known}
use Rattle.ccsl_formula.proofs.Kept.{test_same}

pub under-self : (p : Part) → Under p p
under-self p = record { at = λ x. inr refl }

pub under-trans : (p q r : Part) → Under p q → Under q r → Under p r
under-trans p q r a b = record {
  at = λ x. ⊎_elim inl (λ e. ⊎_elim (λ o. inl (e ∙ o)) (λ f. inr (e ∙ f)) (b.at x)) (a.at x);
}

-- one more value of p
pub under-take : (q q' p : Part) (x : ℕ) → Under q p → q' ≡ with_truth q x (p x) → Under q' p
under-take q q' p x a e = record {
  at = λ y.
      ⊎_elim
      (λ s. inr (ap (λ (r : Part). r y) e ∙ test_same y x (p x) (q y) s ∙ ap p (sym s)))
      (λ n. let same : q' y ≡ q y = ap (λ (r : Part). r y) e ∙ test_other y x (p x) (q y) n in
      ⊎_elim (λ o. inl (same ∙ o)) (λ f. inr (same ∙ f)) (a.at y))
      (cases_eq y x);
}

-- a value that is known stays
pub under-known : (q r : Part) (x : ℕ) → Under q r → q x ≢ Open → r x ≡ q x
under-known q r x a n = ⊎_elim (λ o. absurd (n o)) sym (a.at x)

pub under-with : (p : Part) (x : ℕ) (b : Bool) → p x ≡ Open → Under p (with_value p x b)
under-with p x b free = record {
  at = λ y. ⊎_elim (λ s. inl (ap p s ∙ free)) (λ n. inr (sym (test_other y x (known_as b) (p y) n))) (cases_eq y x);
}

-- what does not use one more value is within the others
pub under-left : (p q : Part) (x : ℕ) (b : Bool) → Under q (with_value p x b) → q x ≡ Open → Under q p
under-left p q x b u o = record {
  at = λ y. ⊎_elim (λ s. inl (ap q s ∙ o)) (λ n. ⊎_elim inl (λ e. inr (e ∙ test_other y x (known_as b) (p y) n)) (u.at y)) (cases_eq y x);
}

-- a value that is given and taken away again
pub undone : (p : Part) (x : ℕ) (b : Bool) → p x ≡ Open → with_truth (with_value p x b) x Open ≡ p
undone p x b free =
    fun_ext
    (λ y. ⊎_elim
    (λ s. test_same y x Open (with_value p x b y) s ∙ sym (ap p s ∙ free))
    (λ n. test_other y x Open (with_value p x b y) n ∙ test_other y x (known_as b) (p y) n)
    (cases_eq y x))

pub inside-with : (n x : ℕ) (b : Bool) (p : Part) → x < n → IsInside n p → IsInside n (with_value p x b)
inside-with n x b p l i = record {
  outside = λ y m. test_other y x (known_as b) (p y) (λ s. omega arith) ∙ i.outside y m;
}

pub inside-under : (n : ℕ) (q p : Part) → Under q p → IsInside n p → IsInside n q
inside-under n q p u i = record { outside = λ y m. ⊎_elim (λ o. o) (λ e. e ∙ i.outside y m) (u.at y) }

open-le : (n x : ℕ) (b : Bool) (p : Part) → open_count n (with_value p x b) ≤ open_count n p
open-le zero x b p = omega arith
open-le (suc n) x b p =
    let rest = open-le n x b p in
    let q = with_value p x b in
    ⊎_elim
    (λ e.
    let here : is_open (q n) ≡ false = ap is_open (test_same n x (known_as b) (p n) e) ∙ open-known b in
    subst (λ t. cond t (suc (open_count n q)) (open_count n q) ≤ open_count (suc n) p) (sym here)
    (elim (is_open (p n)) as (λ t. open_count n q ≤ cond t (suc (open_count n p)) (open_count n p)) [ true ↦ omega arith | false ↦ rest ]))
    (λ d.
    let here : is_open (q n) ≡ is_open (p n) = ap is_open (test_other n x (known_as b) (p n) d) in
    subst (λ t. cond t (suc (open_count n q)) (open_count n q) ≤ open_count (suc n) p) (sym here)
    (elim (is_open (p n)) as (λ t. cond t (suc (open_count n q)) (open_count n q) ≤ cond t (suc (open_count n p)) (open_count n p))
    [ true ↦ omega arith | false ↦ rest ]))
    (cases_eq n x)

-- a value for an open clock leaves fewer open ones
pub fewer-open : (n x : ℕ) (b : Bool) (p : Part) → x < n → p x ≡ Open → open_count n (with_value p x b) < open_count n p
fewer-open zero x b p l o = absurd (omega arith)
fewer-open (suc n) x b p l o =
    let q = with_value p x b in
    ⊎_elim
    (λ e.
    let rest = open-le n x b p in
    let here : is_open (q n) ≡ false = ap is_open (test_same n x (known_as b) (p n) e) ∙ open-known b in
    let there : is_open (p n) ≡ true = ap is_open (ap p e ∙ o) in
    subst (λ t. cond t (suc (open_count n q)) (open_count n q) < open_count (suc n) p) (sym here)
    (subst (λ t. open_count n q < cond t (suc (open_count n p)) (open_count n p)) (sym there) (omega arith)))
    (λ d.
    let rest = fewer-open n x b p (omega arith) o in
    let here : is_open (q n) ≡ is_open (p n) = ap is_open (test_other n x (known_as b) (p n) d) in
    subst (λ t. cond t (suc (open_count n q)) (open_count n q) < open_count (suc n) p) (sym here)
    (elim (is_open (p n)) as (λ t. cond t (suc (open_count n q)) (open_count n q) < cond t (suc (open_count n p)) (open_count n p))
    [ true ↦ omega arith | false ↦ rest ]))
    (cases_eq n x)
