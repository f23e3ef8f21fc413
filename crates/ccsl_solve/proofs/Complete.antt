-- The end of a branch, where all clocks have values.
use Rattle.std.proofs.Common.{◌≡◌, ◌≢◌, ℕ, zero, suc, ◌<◌, List, [], ◌∷◌, ◌++◌, length, Bool, true, false, ◌&&◌, refl, sym, ap, ◌∙◌, arith, slice_get}
use Rattle.ccsl_formula.specs.declared.truth3.Truth3.{Truth3}
use Rattle.ccsl_formula.specs.declared.truth3.Truth3.TheVariants.{Yes, No, Open}
use Rattle.ccsl_formula.specs.Truth.{known_as, Part}
use Rattle.ccsl_formula.specs.Formula.{Formula, kleene, truth}
use Rattle.ccsl_formula.proofs.Variables.{kleene-known}
use Rattle.ccsl_refute.specs.Literals.{is_no, lit_value, all_false, positives}
use Rattle.ccsl_refute.specs.declared.line.Lit.{Lit}
use Rattle.ccsl_refute.specs.Validity.{is_refuted}
use Rattle.ccsl_solve.specs.Under.{is_yes, filled}
use Rattle.ccsl_solve.specs.Posed.{AllBelow}
use Rattle.ccsl_solve.specs.Finds.{AllYes}

filled-known : (t : Truth3) → t ≢ Open → t ≡ known_as (is_yes t)
filled-known Yes n = refl
filled-known No n = refl
filled-known Open n = absurd (n refl)

yes-of : (t : Truth3) → t ≢ Open → is_no t ≡ false → t ≡ Yes
yes-of Yes n e = refl
yes-of No n e = absurd (cc)
yes-of Open n e = absurd (n refl)

yes-or-no : (t : Truth3) (b : Bool) → t ≡ known_as b → is_no t ≡ false → t ≡ Yes
yes-or-no t true e n = e
yes-or-no t false e n = let bad : true ≡ false = sym (ap is_no e) ∙ n in absurd (cc)

pub all-yes : (fs : List Formula) (p : Part) (n : ℕ) → AllBelow n fs → ((x : ℕ) → x < n → p x ≢ Open) →
    ((k : ℕ) → k < length fs → is_refuted p (slice_get fs k) ≡ false) → AllYes fs p
all-yes [] p n b t h = tt
all-yes (f ∷ fs) p n b t h =
    let known : kleene f p ≡ known_as (truth f (filled p)) = kleene-known f p (filled p) (λ x r. filled-known (p x) (t x (b.0 x r))) in
    (yes-or-no (kleene f p) (truth f (filled p)) known (h 0 (omega arith)), all-yes fs p n b.1 t (λ k l. h (suc k) (omega arith)))

false-append : (p : Part) (ls ks : List Lit) → all_false p ls ≡ true → all_false p (ls ++ ks) ≡ all_false p ks
false-append p [] ks h = refl
false-append p (l ∷ ls) ks h =
    (elim (is_no (lit_value p l)) as (λ t. (t && all_false p ls) ≡ true → (t && all_false p (ls ++ ks)) ≡ all_false p ks)
    [ true ↦ λ e. false-append p ls ks e | false ↦ λ e. absurd (cc) ]) h

and-true-left : (b : Bool) → (b && true) ≡ false → b ≡ false
and-true-left true e = e
and-true-left false e = refl

pub some-member : (p : Part) (d : ℕ) → ((x : ℕ) → x < d → p x ≢ Open) → all_false p (positives d) ≡ false → (x : ℕ) × (x < d) × (p x ≡ Yes)
some-member p zero t h = absurd (cc)
some-member p (suc d) t h =
    (elim (all_false p (positives d)) as (λ b. all_false p (positives d) ≡ b → (x : ℕ) × (x < suc d) × (p x ≡ Yes)) [
      | true ↦ λ e. (d, omega arith, yes-of (p d) (t d (omega arith)) (and-true-left (is_no (p d)) (sym (false-append p (positives d) _ e) ∙ h)))
      | false ↦ λ e. let m = some-member p d (λ x l. t x (omega arith)) e in (m.0, omega (arith, m.1), m.2)
    ]) refl
