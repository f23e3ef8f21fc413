-- What a test of two clocks picks, and whether a truth value is open.
use Rattle.std.proofs.Common.{◌≡◌, ◌≢◌, ◌⊎◌, ℕ, Bool, true, false, not, cond, nat_eq, refl, ap, inl, inr}
use Rattle.std.proofs.lemmas.Bool.{ne_eqb}
use Rattle.ccsl_formula.specs.declared.truth3.Truth3.{Truth3}
use Rattle.ccsl_formula.specs.declared.truth3.Truth3.TheVariants.{Yes, No, Open}
use Rattle.ccsl_formula.specs.Truth.{known_as}
use Rattle.ccsl_formula.specs.Agreement.{is_open}

pub test_other : {A : Type 0} (x y : ℕ) (a b : A) → (x ≡ y → ⊥) → cond (nat_eq x y) a b ≡ b
test_other x y a b n = ap (λ t. cond t a b) (ne_eqb x y n)

pub open_or_not : (t : Truth3) → (t ≡ Open) ⊎ (t ≢ Open)
open_or_not Yes = inr (λ e. absurd (cc))
open_or_not No = inr (λ e. absurd (cc))
open_or_not Open = inl refl

pub known-not_open : (t : Truth3) (b : Bool) → t ≡ known_as b → t ≢ Open
known-not_open t true e o = absurd (cc)
known-not_open t false e o = absurd (cc)

pub open-known : (b : Bool) → is_open (known_as b) ≡ false
open-known true = refl
open-known false = refl

pub open-test : (t : Truth3) → is_open t ≡ true → t ≡ Open
open-test Yes e = absurd (cc)
open-test No e = absurd (cc)
open-test Open e = refl

pub not-open-test : (t : Truth3) → is_open t ≡ false → t ≢ Open
not-open-test Yes e o = absurd (cc)
not-open-test No e o = absurd (cc)
not-open-test Open e o = absurd (cc)

pub not-not : (b : Bool) → not (not b) ≡ b
not-not true = refl
not-not false = refl
