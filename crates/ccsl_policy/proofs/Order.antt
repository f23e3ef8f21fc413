-- The order of the clocks by priority.
use Rattle.std.proofs.Common.{◌≡◌, ◌⊎◌, ℕ, ◌<◌, ◌≤◌, List, Bool, true, false, ◌&&◌, ◌||◌, nat_eq, nat_lt, refl, ap, ◌∙◌, ⊎_elim, inl, inr, arith}
use Rattle.std.proofs.lemmas.Bool.{lt-ltb, ltb-true, le-ltb, eq-eqb, eqb-true}
use Rattle.ccsl_policy.specs.Priority.{word_of, comes_before}

-- as numbers
abbrev pub Before : List ℕ → ℕ → ℕ → Type 0
Before words c d = (word_of words c < word_of words d) ⊎ ((word_of words c ≡ word_of words d) × (c < d))

pub before-is : (words : List ℕ) (c d : ℕ) → comes_before words c d ≡ true → Before words c d
before-is words c d h =
    let u = word_of words c in
    let v = word_of words d in
    (elim (nat_lt u v) as (λ b. nat_lt u v ≡ b → (b || (nat_eq u v && nat_lt c d)) ≡ true → Before words c d) [
      | true ↦ λ e q. inl (ltb-true u v e)
      | false ↦ λ e.
          (elim (nat_eq u v) as (λ b. nat_eq u v ≡ b → (b && nat_lt c d) ≡ true → Before words c d) [
            | true ↦ λ f q. inr (eqb-true u v f, ltb-true c d q)
            | false ↦ λ f q. absurd (cc)
          ]) refl
    ]) refl h

pub is-before : (words : List ℕ) (c d : ℕ) → Before words c d → comes_before words c d ≡ true
is-before words c d h =
    let u = word_of words c in
    let v = word_of words d in
    ⊎_elim
    (λ l. ap (λ b. b || (nat_eq u v && nat_lt c d)) (lt-ltb u v l))
    (λ p. let not_less : v ≤ u = omega (arith, p.0) in
    ap (λ b. b || (nat_eq u v && nat_lt c d)) (le-ltb u v not_less)
    ∙ ap (λ b. b && nat_lt c d) (eq-eqb u v p.0) ∙ lt-ltb c d p.1)
    h

pub before-trans : (words : List ℕ) (a b c : ℕ) → comes_before words a b ≡ true → comes_before words b c ≡ true → comes_before words a c ≡ true
before-trans words a b c h g =
    let u = word_of words a in
    let v = word_of words b in
    let w = word_of words c in
    is-before words a c
    (⊎_elim
    (λ l. ⊎_elim (λ m. let r : u < w = omega (arith, l, m) in inl r) (λ p. let r : u < w = omega (arith, l, p.0) in inl r) (before-is words b c g))
    (λ p. ⊎_elim (λ m. let r : u < w = omega (arith, p.0, m) in inl r) (λ q. let r : a < c =
    omega (arith, p.1, q.1) in inr (p.0 ∙ q.0, r)) (before-is words b c g))
    (before-is words a b h))

pub before-other : (words : List ℕ) (a : ℕ) → comes_before words a a ≡ false
before-other words a =
    let u = word_of words a in
    let le : u ≤ u = omega arith in
    let less : a ≤ a = omega arith in
    ap (λ b. b || (nat_eq u u && nat_lt a a)) (le-ltb u u le) ∙ ap (λ b. nat_eq u u && b) (le-ltb a a less) ∙ and-false (nat_eq u u)
  where
    and-false : (b : Bool) → (b && false) ≡ false
    and-false true = refl
    and-false false = refl
