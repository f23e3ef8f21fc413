-- Lists of formulas with items taken out.
use Rattle.std.proofs.Common.{◌≡◌, ◌≢◌, ℕ, zero, suc, List, [], ◌∷◌, length, map, true, Some, slice_get, slice_set, refl, sym, ap, subst, ◌∙◌, ⊎_elim, inl, inr}
use Rattle.std.proofs.Common.{arith}
use Rattle.std.proofs.lemmas.Bool.{cases_eq}
use Rattle.std.proofs.lemmas.List.{length-map, length-set}
use Rattle.ccsl_formula.specs.declared.formula.Formula.{Formula as Boxed}
use Rattle.ccsl_formula.specs.declared.scope.Scope.{Scope}
use Rattle.ccsl_formula.specs.Truth.{Assignment}
use Rattle.ccsl_formula.specs.Formula.{Formula, FTrue, truth, in_set}
use Rattle.ccsl_formula.specs.Variables.{ReadsBelow}
use Rattle.ccsl_formula.specs.Plain.{plain}
use Rattle.ccsl_refute.specs.Meaning.{Solves, Blocks}
use Rattle.ccsl_solve.specs.Posed.{AllBelow}
use Rattle.ccsl_explain.specs.Asked.{IsAsked, HasStep}
use Rattle.ccsl_explain.specs.Core.{Satisfies, Block, AreOpen}
use Rattle.ccsl_explain.specs.Masked.{without, IsMasked}
use Rattle.ccsl_explain.proofs.Items.{all-true}
use Rattle.ccsl_refute.proofs.Sound.{item-true}

pub get-other : {A : Type 0} (xs : List A) (i j : ℕ) (a : A) → j ≢ i → slice_get (slice_set xs i a) j ≡ slice_get xs j
get-other [] i j a d = refl
get-other (x ∷ xs) zero zero a d = absurd (d refl)
get-other (x ∷ xs) zero (suc j) a d = refl
get-other (x ∷ xs) (suc i) zero a d = refl
get-other (x ∷ xs) (suc i) (suc j) a d = get-other xs i j a (λ e. d (ap suc e))

get-there : {A : Type 0} (xs : List A) (i : ℕ) (a y : A) → slice_get (slice_set xs i a) i ≡ Some y → y ≡ a
get-there [] i a y e = absurd (cc)
get-there (x ∷ xs) zero a y e = cc
get-there (x ∷ xs) (suc i) a y e = get-there xs i a y e

-- one more item is taken out
pub without-masked : (fs ms : List Formula) (P Q : ℕ → Type 0) (i : ℕ) → IsMasked fs P ms →
    ((j : ℕ) → Q j → P j × (j ≢ i)) → ((j : ℕ) → P j → j ≢ i → Q j) → IsMasked fs Q (without ms i)
without-masked fs ms P Q i m to from = record {
  kept = λ j f q g. get-other ms i j FTrue (to j q).1 ∙ m.kept j f (to j q).0 g;
  others = λ j f g.
      ⊎_elim
      (λ e. inl (get-there ms i FTrue f (subst (λ k. slice_get (slice_set ms i FTrue) k ≡ Some f) e g)))
      (λ d. ⊎_elim inl (λ p. inr (from j p.0 d, p.1)) (m.others j f (sym (get-other ms i j FTrue d) ∙ g)))
      (cases_eq j i);
}

-- nothing is taken out
pub all-masked : (fs : List Formula) (P : ℕ → Type 0) → ((j : ℕ) → P j) → IsMasked fs P fs
all-masked fs P h = record { kept = λ j f p g. g; others = λ j f g. inr (h j, g) }

pub solves-masked : (scope : Scope) (fs ms : List Formula) (P : ℕ → Type 0) (v : Assignment) → IsMasked fs P ms → Satisfies scope fs P v → Solves scope ms v
solves-masked scope fs ms P v m s = record {
  member = s.member;
  all = all-true ms v (λ j f g. ⊎_elim (λ e. subst (λ (h : Formula). truth h v ≡ true) (sym e) refl) (λ p. s.each j f p.0 p.1) (m.others j f g));
}

pub satisfies-masked : (scope : Scope) (fs ms : List Formula) (P : ℕ → Type 0) (v : Assignment) → IsMasked fs P ms → Solves scope ms v → Satisfies scope fs P v
satisfies-masked scope fs ms P v m s = record { member = s.member; each = λ j f p g. item-true ms v j f s.all (m.kept j f p g) }

pub block-masked : (scope : Scope) (fs ms : List Formula) (P : ℕ → Type 0) → IsMasked fs P ms → Blocks scope ms → Block scope fs P
block-masked scope fs ms P m b = λ set s. b set (solves-masked scope fs ms P (in_set set) m s)

pub blocks-masked : (scope : Scope) (fs ms : List Formula) (P : ℕ → Type 0) → IsMasked fs P ms → Block scope fs P → Blocks scope ms
blocks-masked scope fs ms P m b = λ set s. b set (satisfies-masked scope fs ms P (in_set set) m s)

pub open-masked : (scope : Scope) (fs ms : List Formula) (P : ℕ → Type 0) → IsMasked fs P ms → HasStep scope ms → AreOpen scope fs P
open-masked scope fs ms P m h = record { set = h.set; named = h.named; satisfies = satisfies-masked scope fs ms P (in_set h.set) m h.solves }

pub step-masked : (scope : Scope) (fs ms : List Formula) (P : ℕ → Type 0) → IsMasked fs P ms → AreOpen scope fs P → HasStep scope ms
step-masked scope fs ms P m o = record { set = o.set; named = o.named; solves = solves-masked scope fs ms P (in_set o.set) m o.satisfies }

below-each : (n : ℕ) (fs : List Formula) (j : ℕ) (f : Formula) → AllBelow n fs → slice_get fs j ≡ Some f → ReadsBelow n f
below-each n [] j f b g = absurd (cc)
below-each n (h ∷ fs) zero f b g = let q : h ≡ f = cc in subst (ReadsBelow n) q b.0
below-each n (h ∷ fs) (suc j) f b g = below-each n fs j f b.1 g

each-below : (n : ℕ) (fs : List Formula) → ((j : ℕ) (f : Formula) → slice_get fs j ≡ Some f → ReadsBelow n f) → AllBelow n fs
each-below n [] h = tt
each-below n (f ∷ fs) h = (h zero f refl, each-below n fs (λ j g e. h (suc j) g e))

-- the conditions of a question hold with fewer items too
asked-masked : (scope : Scope) (fs ms : List Formula) (P : ℕ → Type 0) → IsMasked fs P ms → length ms ≡ length fs → IsAsked scope fs → IsAsked scope ms
asked-masked scope fs ms P m l a = record {
  declared = a.declared;
  named = a.named;
  reads = each-below scope.named ms
      (λ j f g. ⊎_elim (λ e. subst (ReadsBelow scope.named) (sym e) (λ v r. absurd (cc))) (λ p. below-each scope.named fs j f a.reads p.1) (m.others j f g));
  few = omega (arith, a.few, l);
}

pub asked-plain : (scope : Scope) (fs ms : List Boxed) (P : ℕ → Type 0) → IsMasked (map plain fs) P (map plain ms) → length ms ≡ length fs →
    IsAsked scope (map plain fs) → IsAsked scope (map plain ms)
asked-plain scope fs ms P m l a = asked-masked scope (map plain fs) (map plain ms) P m (length-map ms plain ∙ l ∙ sym (length-map fs plain)) a

pub asked-without : (scope : Scope) (fs : List Formula) (i : ℕ) → IsAsked scope fs → IsAsked scope (without fs i)
asked-without scope fs i a =
    asked-masked scope fs (without fs i) (λ j. j ≢ i)
    (without-masked fs fs (λ j. Unit {0}) (λ j. j ≢ i) i (all-masked fs (λ j. Unit {0}) (λ j. tt)) (λ j d. (tt, d)) (λ j u d. d))
    (length-set fs i FTrue) a
