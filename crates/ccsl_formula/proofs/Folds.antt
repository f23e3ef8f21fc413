-- What the connectives of operands that are no constants have in common.
use Rattle.std.proofs.Common.{◌≡◌, Bool, true, false, not, ◌&&◌, refl, ◌∙◌}
use Rattle.ccsl_formula.specs.declared.formula.Formula.{Formula as Boxed, Not', And', Or', Iff'}
use Rattle.ccsl_formula.specs.declared.formula.Formula.TheVariants.{True, False, Var}
use Rattle.ccsl_formula.specs.declared.truth3.Truth3.{Truth3}
use Rattle.ccsl_formula.specs.declared.truth3.Truth3.TheVariants.{Yes, No, Open}
use Rattle.ccsl_formula.specs.Truth.{not3, iff3}
use Rattle.ccsl_formula.specs.Formula.{Formula, FFalse, FNot, FIff, truth, kleene, same}
use Rattle.ccsl_formula.specs.Same.{Same}
use Rattle.ccsl_formula.specs.Folded.{is_constant, is_folded}
use Rattle.ccsl_formula.specs.Plain.{plain}

pub is_constant-plain : (f : Boxed) → (f ≡ True → ⊥) → (f ≡ False → ⊥) → is_constant (plain f) ≡ false
is_constant-plain True t n = absurd (t refl)
is_constant-plain False t n = absurd (n refl)
is_constant-plain (Var x) t n = refl
is_constant-plain (Not' p f) t n = refl
is_constant-plain (And' p f q g) t n = refl
is_constant-plain (Or' p f q g) t n = refl
is_constant-plain (Iff' p f q g) t n = refl

pub is_folded-connective : (f g : Formula) → is_constant f ≡ false → is_constant g ≡ false → is_folded f ≡ true → is_folded g ≡ true →
    (not (is_constant f) && not (is_constant g) && is_folded f && is_folded g) ≡ true
is_folded-connective f g p q r s = rw (p, q, r, s)

pub ruleset folds = (is_constant-plain, is_folded-connective)

pub not-is : (b : Bool) → not b ≡ same b false
not-is true = refl
not-is false = refl

not3-is : (t : Truth3) → not3 t ≡ iff3 t No
not3-is Yes = refl
not3-is No = refl
not3-is Open = refl

-- the equivalence with False is the negation
pub Same-iff_false : (f r : Formula) → Same r (FNot f) → Same r (FIff f FFalse)
Same-iff_false f r h = record { truth = λ v. h.truth v ∙ not-is (truth f v); kleene = λ p. h.kleene p ∙ not3-is (kleene f p) }
