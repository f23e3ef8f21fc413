-- The three-valued tables fit the two-valued ones.
use Rattle.std.proofs.Common.{Bool, true, false, not, ◌&&◌, ◌||◌, inl, inr, refl, ⊎_elim}
use Rattle.ccsl_formula.specs.declared.truth3.Truth3.{Truth3}
use Rattle.ccsl_formula.specs.declared.truth3.Truth3.TheVariants.{Yes, No, Open}
use Rattle.ccsl_formula.specs.Truth.{not3, and3, or3, iff3}
use Rattle.ccsl_formula.specs.Agreement.{Fits}
use Rattle.ccsl_formula.specs.Formula.{same}

pub not-fits : (a : Truth3) (x : Bool) → Fits a x → Fits (not3 a) (not x)
not-fits Yes true h = inr refl
not-fits Yes false h = ⊎_elim (λ e. absurd (cc)) (λ e. absurd (cc)) h
not-fits No true h = ⊎_elim (λ e. absurd (cc)) (λ e. absurd (cc)) h
not-fits No false h = inr refl
not-fits Open x h = inl refl

pub and-fits : (a b : Truth3) (x y : Bool) → Fits a x → Fits b y → Fits (and3 a b) (x && y)
and-fits Yes b true y h k = k
and-fits Yes b false y h k = ⊎_elim (λ e. absurd (cc)) (λ e. absurd (cc)) h
and-fits No b true y h k = ⊎_elim (λ e. absurd (cc)) (λ e. absurd (cc)) h
and-fits No b false y h k = inr refl
and-fits Open Yes x y h k = inl refl
and-fits Open No x true h k = ⊎_elim (λ e. absurd (cc)) (λ e. absurd (cc)) k
and-fits Open No true false h k = inr refl
and-fits Open No false false h k = inr refl
and-fits Open Open x y h k = inl refl

pub or-fits : (a b : Truth3) (x y : Bool) → Fits a x → Fits b y → Fits (or3 a b) (x || y)
or-fits Yes b true y h k = inr refl
or-fits Yes b false y h k = ⊎_elim (λ e. absurd (cc)) (λ e. absurd (cc)) h
or-fits No b true y h k = ⊎_elim (λ e. absurd (cc)) (λ e. absurd (cc)) h
or-fits No b false y h k = k
or-fits Open Yes x false h k = ⊎_elim (λ e. absurd (cc)) (λ e. absurd (cc)) k
or-fits Open Yes true true h k = inr refl
or-fits Open Yes false true h k = inr refl
or-fits Open No x y h k = inl refl
or-fits Open Open x y h k = inl refl

pub iff-fits : (a b : Truth3) (x y : Bool) → Fits a x → Fits b y → Fits (iff3 a b) (same x y)
iff-fits Yes b true y h k = k
iff-fits Yes b false y h k = ⊎_elim (λ e. absurd (cc)) (λ e. absurd (cc)) h
iff-fits No b true y h k = ⊎_elim (λ e. absurd (cc)) (λ e. absurd (cc)) h
iff-fits No b false y h k = not-fits b y k
iff-fits Open b x y h k = inl refl
