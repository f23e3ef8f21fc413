-- The literals that deny the values of clocks.
use Rattle.std.proofs.Common.{◌≡◌, ℕ, ◌<◌, ◌≤◌, List, [], ◌∷◌, map, Bool, true, false, not, ◌&&◌, ◌||◌, cond, nat_eq, nat_lt, refl, sym, ap, ◌∙◌}
use Rattle.std.proofs.Math.Path.{fun_ext}
use Rattle.std.specs.List.{list_all}
use Rattle.std.proofs.lemmas.Bool.{eq-eqb, lt-ltb, ltb-true, ltb-false, and_parts, or_right}
use Rattle.ccsl_base.specs.Clocks.{ticks_in, is_ascending}
use Rattle.ccsl_formula.specs.Truth.{known_as}
use Rattle.ccsl_formula.specs.Agreement.{is_open}
use Rattle.ccsl_formula.specs.Known.{known, clocks}
use Rattle.ccsl_refute.specs.declared.line.Lit.{Lit}
use Rattle.ccsl_refute.specs.Literals.{falsified, names, are_proper}
use Rattle.ccsl_solve.specs.Under.{IsInside}
use Rattle.ccsl_solve.specs.Conflict.{IsDenial, denied}
use Rattle.ccsl_solve.proofs.Tests.{not-not, open-known}
use Rattle.ccsl_base.proofs.Ascending.{no-member}

-- a clock has a value where it is one of the clocks that have one
clock-known : (ps : List (ℕ × Bool)) (x : ℕ) → ticks_in x (clocks ps) ≡ not (is_open (known ps x))
clock-known [] x = refl
clock-known (p ∷ ps) x =
    elim (nat_eq x p.0) as (λ t. (t || ticks_in x (clocks ps)) ≡ not (is_open (cond t (known_as p.1) (known ps x))))
    [ true ↦ sym (ap not (open-known p.1)) | false ↦ clock-known ps x ]

denied-falsified : (ps : List (ℕ × Bool)) (x : ℕ) → falsified (map denied ps) x ≡ known ps x
denied-falsified [] x = refl
denied-falsified (p ∷ ps) x =
    ap (λ b. cond (nat_eq x p.0) (known_as b) (falsified (map denied ps) x)) (not-not p.1)
    ∙ ap (λ t. cond (nat_eq x p.0) (known_as p.1) t) (denied-falsified ps x)

denied-names : (ps : List (ℕ × Bool)) (x : ℕ) → names x (map denied ps) ≡ ticks_in x (clocks ps)
denied-names [] x = refl
denied-names (p ∷ ps) x = ap (λ t. nat_eq x p.0 || t) (denied-names ps x)

denied-proper : (n : ℕ) (ps : List (ℕ × Bool)) → is_ascending (clocks ps) ≡ true → ((x : ℕ) → ticks_in x (clocks ps) ≡ true → x < n) →
    are_proper n (map denied ps) ≡ true
denied-proper n [] a b = refl
denied-proper n (p ∷ ps) a b =
    let parts = and_parts (list_all (nat_lt p.0) (clocks ps)) (is_ascending (clocks ps)) a in
    ap (λ t. t && (not (names p.0 (map denied ps)) && are_proper n (map denied ps)))
    (lt-ltb p.0 n (b p.0 (ap (λ t. t || ticks_in p.0 (clocks ps)) (eq-eqb p.0 p.0 refl))))
    ∙ ap (λ t. not t && are_proper n (map denied ps)) (denied-names ps p.0 ∙ no-member p.0 (clocks ps) parts.0)
    ∙ denied-proper n ps parts.1 (λ x t. b x (or_right (nat_eq x p.0) (ticks_in x (clocks ps)) t))

-- the literals that deny the clocks that have a value
pub denies : (n : ℕ) (ps : List (ℕ × Bool)) (ls : List Lit) → is_ascending (clocks ps) ≡ true → IsInside n (known ps) → ls ≡ map denied ps →
    IsDenial n ls (known ps)
denies n ps ls a i e =
    let inside : (x : ℕ) → ticks_in x (clocks ps) ≡ true → x < n =
    λ x t. (elim (nat_lt x n) as (λ b. nat_lt x n ≡ b → x < n) [
      | true ↦ λ f. ltb-true x n f
      | false ↦ λ f.
          let past : n ≤ x = ltb-false x n f in
          let bad : true ≡ false = sym t ∙ clock-known ps x ∙ ap (λ w. not (is_open w)) (i.outside x past) in
          absurd (cc)
    ]) refl
    in
    record {
      proper = ap (are_proper n) e ∙ denied-proper n ps a inside;
      part = ap falsified e ∙ fun_ext (denied-falsified ps);
    }
