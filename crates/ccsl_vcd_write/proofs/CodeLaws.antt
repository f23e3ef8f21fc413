-- Codes are short and visible, and no two clocks have the same.
use Rattle.std.proofs.Common.{◌≡◌, ℕ, ◌+◌, ◌-◌, ◌*◌, ◌/◌, ◌%◌, ◌≤◌, ◌<◌, List, [], ◌∷◌, length, true, false, ◌&&◌, nat_lt, nat_eq, cond, refl, sym, ap, ap₂}
use Rattle.std.proofs.Common.{◌∙◌, arith}
use Rattle.std.specs.List.{list_all}
use Rattle.std.specs.Str.{bytes_eq}
use Rattle.std.proofs.lemmas.Bool.{le-leb, ltb-true, ltb-false, eq-eqb}
use Rattle.std.proofs.lemmas.Grind.{common_steps}
use Rattle.ccsl_base.specs.Name.{is_visible}
use Rattle.ccsl_base.proofs.Tables.{bytes_eq-true, bytes_eq-refl}
use Rattle.ccsl_vcd_write.specs.Code.{code_of}

visible : (i : ℕ) → i < 94 → is_visible (33 + i) ≡ true
visible i h = ap₂ (λ a b. a && b) (le-leb 33 (33 + i) (omega arith)) (le-leb (33 + i) 126 (omega arith))

high : (x : ℕ) → x < 1024 → (x - 94) / 94 < 94
high x h = omega arith

low : (x : ℕ) → (x - 94) % 94 < 94
low x = omega arith

-- a fact of each form of code
by-form : (P : List ℕ → Type 0) (x : ℕ) → (x < 94 → P ((33 + x) ∷ [])) → (94 ≤ x → P ((33 + (x - 94) / 94) ∷ (33 + (x - 94) % 94) ∷ [])) → P (code_of x)
by-form P x one two =
    (elim (nat_lt x 94) as (λ w. nat_lt x 94 ≡ w → P (cond w ((33 + x) ∷ []) ((33 + (x - 94) / 94) ∷ (33 + (x - 94) % 94) ∷ []))) [
      | true ↦ λ e. one (ltb-true x 94 e)
      | false ↦ λ e. two (ltb-false x 94 e)
    ]) refl

pub code-visible : (x : ℕ) → x < 1024 → list_all is_visible (code_of x) ≡ true
code-visible x h =
    by-form (λ c. list_all is_visible c ≡ true) x (λ l. ap₂ (λ a b. a && b) (visible x l) refl)
    (λ l. ap₂ (λ a b. a && b) (visible ((x - 94) / 94) (high x h)) (ap₂ (λ a b. a && b) (visible ((x - 94) % 94) (low x)) refl))

pub code-some : (x : ℕ) → 1 ≤ length (code_of x)
code-some x = by-form (λ c. 1 ≤ length c) x (λ _. omega arith) (λ _. omega arith)

pub code-short : (x : ℕ) → length (code_of x) ≤ 2
code-short x = by-form (λ c. length c ≤ 2) x (λ _. omega arith) (λ _. omega arith)

-- the clock of a code
abbrev clock_of : List ℕ → ℕ
clock_of [] = 0
clock_of (b ∷ []) = b - 33
clock_of (b ∷ c ∷ bs) = 94 + 94 * (b - 33) + (c - 33)

clock_of-code : (x : ℕ) → clock_of (code_of x) ≡ x
clock_of-code x = by-form (λ c. clock_of c ≡ x) x (λ l. omega arith) (λ l. omega arith)

not-equal : (a b : List ℕ) → (bytes_eq a b ≡ true → nat_eq 0 1 ≡ true) → bytes_eq a b ≡ false
not-equal a b h = (elim (bytes_eq a b) as (λ w. (w ≡ true → nat_eq 0 1 ≡ true) → w ≡ false) [
  | true ↦ λ g. absurd (let e : false ≡ true = g refl in cc)
  | false ↦ λ _. refl
]) h

-- two codes are equal where their clocks are
pub codes-equal : (x y : ℕ) → bytes_eq (code_of y) (code_of x) ≡ nat_eq x y
codes-equal x y =
    (elim (nat_eq x y) as (λ w. nat_eq x y ≡ w → bytes_eq (code_of y) (code_of x) ≡ w) [
      | true ↦ λ e. let same : y ≡ x = grind (arith, common_steps) in bytes_eq-refl (code_of y) (code_of x) (ap code_of same)
      | false ↦ λ e. not-equal (code_of y) (code_of x) (λ t.
          let same : y ≡ x = sym (clock_of-code y) ∙ ap clock_of (bytes_eq-true (code_of y) (code_of x) t) ∙ clock_of-code x in
          let other : nat_eq x y ≡ true = eq-eqb x y (sym same) in
          absurd (cc))
    ]) refl

pub longer-equal : (a b : List ℕ) → length a < length b → bytes_eq a b ≡ false
longer-equal [] [] h = absurd (omega arith)
longer-equal [] (y ∷ ys) h = refl
longer-equal (x ∷ xs) [] h = refl
longer-equal (x ∷ xs) (y ∷ ys) h =
    elim (nat_eq x y) as (λ w. (w && bytes_eq xs ys) ≡ false) [ true ↦ longer-equal xs ys (omega arith) | false ↦ refl ]
