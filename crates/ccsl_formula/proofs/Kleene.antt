-- A Kleene value that is known is the truth value.
use Rattle.std.proofs.Common.{◌≡◌, Bool, true, false, inr, refl, ⊎_elim}
use Rattle.ccsl_formula.specs.declared.truth3.Truth3.TheVariants.{Yes, No}
use Rattle.ccsl_formula.specs.Truth.{Part, Assignment}
use Rattle.ccsl_formula.specs.Agreement.{Fits, Agrees}
use Rattle.ccsl_formula.specs.Formula.{Formula, FTrue, FFalse, FVar, FNot, FAnd, FOr, FIff, truth, kleene}
use Rattle.ccsl_formula.proofs.Tables.{not-fits, and-fits, or-fits, iff-fits}

pub kleene_fits : (f : Formula) (p : Part) (v : Assignment) → Agrees v p → Fits (kleene f p) (truth f v)
kleene_fits FTrue p v a = inr refl
kleene_fits FFalse p v a = inr refl
kleene_fits (FVar x) p v a = a.fits x
kleene_fits (FNot f) p v a = not-fits (kleene f p) (truth f v) (kleene_fits f p v a)
kleene_fits (FAnd f g) p v a = and-fits (kleene f p) (kleene g p) (truth f v) (truth g v) (kleene_fits f p v a) (kleene_fits g p v a)
kleene_fits (FOr f g) p v a = or-fits (kleene f p) (kleene g p) (truth f v) (truth g v) (kleene_fits f p v a) (kleene_fits g p v a)
kleene_fits (FIff f g) p v a = iff-fits (kleene f p) (kleene g p) (truth f v) (truth g v) (kleene_fits f p v a) (kleene_fits g p v a)

no-fits : (x : Bool) → Fits No x → x ≡ false
no-fits true h = ⊎_elim (λ e. absurd (cc)) (λ e. absurd (cc)) h
no-fits false h = refl

pub no_false : (f : Formula) (p : Part) (v : Assignment) → Agrees v p → kleene f p ≡ No → truth f v ≡ false
no_false f p v a e = let h : Fits (kleene f p) (truth f v) = kleene_fits f p v a in no-fits (truth f v) (rw e at h)

yes-fits : (x : Bool) → Fits Yes x → x ≡ true
yes-fits true h = refl
yes-fits false h = ⊎_elim (λ e. absurd (cc)) (λ e. absurd (cc)) h

pub yes_true : (f : Formula) (p : Part) (v : Assignment) → Agrees v p → kleene f p ≡ Yes → truth f v ≡ true
yes_true f p v a e = let h : Fits (kleene f p) (truth f v) = kleene_fits f p v a in yes-fits (truth f v) (rw e at h)
