-- The least common multiple of two numbers, by their greatest common divisor.
use Rattle.std.proofs.Common.{◌≡◌, ℕ, ◌*◌, ◌/◌, ◌<◌, ◌≤◌, sym, ap, ◌∙◌, subst, arith, ⊎_elim}
use Rattle.std.specs.Int.{IsGcd}
use Rattle.std.proofs.lemmas.Bool.{cases_lt}
use Rattle.std.proofs.Math.Nat.{div-mul_cancel}

-- the factors of an outer product may change places
exchanged : (x y g : ℕ) → y * (x * g) ≡ x * (y * g)
exchanged x y g = omega arith

module _ (a b g : ℕ) (is : IsGcd a b g) where
  pub divisor_pos : 0 < a → 0 < g
  divisor_pos pos =
      ⊎_elim
      (λ (l : 0 < g). l)
      (λ (l : g ≤ 0).
      let z : g ≡ 0 = omega arith in
      let e : a / 0 * 0 ≡ a = subst (λ n. a / n * n ≡ a) z (div-mul_cancel g is.0) in
      absurd (omega (arith, e, pos)))
      (cases_lt 0 g)

  -- so many turns of a are so many turns of b
  pub same_turn : b / g * a ≡ a / g * b
  same_turn =
      ap (λ n. b / g * n) (sym (div-mul_cancel g is.0))
      ∙ exchanged (a / g) (b / g) g
      ∙ ap (λ n. a / g * n) (div-mul_cancel g is.1)

  pub quotient_pos : 0 < b → 0 < b / g
  quotient_pos pos =
      ⊎_elim
      (λ (l : 0 < b / g). l)
      (λ (l : b / g ≤ 0).
      let z : b / g ≡ 0 = omega arith in
      let e : 0 * g ≡ b = subst (λ n. n * g ≡ b) z (div-mul_cancel g is.1) in
      absurd (omega (arith, e, pos)))
      (cases_lt 0 (b / g))
