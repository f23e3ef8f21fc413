-- Formulas over named clocks have an explanation.
use Rattle.std.proofs.Common.{◌≡◌, ◌≢◌, ◌⊎◌, ℕ, zero, suc, ◌+◌, ◌<◌, ◌≤◌, List, [], ◌∷◌, length, true, Some, slice_get, refl, sym, ap, ◌∙◌, ⊎_elim, inl, inr}
use Rattle.std.proofs.Common.{subst, arith}
use Rattle.std.specs.List.{All, AllZip, Contains}
use Rattle.std.proofs.lemmas.List.Elements.{All-nil, All-cons, All-head, All-tail}
use Rattle.ccsl_formula.specs.declared.scope.Scope.{Scope}
use Rattle.ccsl_formula.specs.Formula.{Formula, FTrue, in_set}
use Rattle.ccsl_formula.specs.Variables.{ReadsBelow}
use Rattle.ccsl_refute.specs.Meaning.{Blocks}
use Rattle.ccsl_refute.specs.Existence.{HasCertificate, UnsolvedHaveCertificates}
use Rattle.ccsl_explain.specs.Asked.{HasStep}
use Rattle.ccsl_explain.specs.Core.{IsCore}
use Rattle.ccsl_explain.specs.Deletion.{IsLeft, IsCoreBelow}
use Rattle.ccsl_explain.specs.LeastSteps.{IsLeastStep}
use Rattle.ccsl_explain.specs.Masked.{without, IsMasked}
use Rattle.ccsl_explain.specs.Laws.{HasExplanation, possible, blocked}
use Rattle.ccsl_explain.proofs.Deletions.{next-stays, next-goes, core-all, left-all}
use Rattle.ccsl_explain.proofs.Explanations.{core-blocks, each-open, explained}
use Rattle.ccsl_explain.proofs.Items.{blocks-all}
use Rattle.ccsl_explain.proofs.Masks.{all-masked, without-masked}
use Rattle.ccsl_explain.proofs.Searching.{EachBelow, least-or-none}

each-below : (n : ℕ) (fs : List Formula) → All (ReadsBelow n) fs → EachBelow n fs
each-below n [] h j f e = absurd (cc)
each-below n (g ∷ fs) h zero f e = let is : g ≡ f = cc in subst (ReadsBelow n) is (All-head (ReadsBelow n) g fs h)
each-below n (g ∷ fs) h (suc j) f e = each-below n fs (All-tail (ReadsBelow n) g fs h) j f e

all-below : (n : ℕ) (fs : List Formula) → EachBelow n fs → All (ReadsBelow n) fs
all-below n [] h = All-nil (ReadsBelow n)
all-below n (f ∷ fs) h = All-cons (ReadsBelow n) f fs (h zero f refl) (all-below n fs (λ j g e. h (suc j) g e))

-- formulas with items taken out read no others
masked-below : (n : ℕ) (fs ms : List Formula) (P : ℕ → Type 0) → IsMasked fs P ms → EachBelow n fs → EachBelow n ms
masked-below n fs ms P m b j f e = ⊎_elim (λ t. subst (ReadsBelow n) (sym t) (λ v r. absurd (cc))) (λ p. b j f p.1) (m.others j f e)

without-below : (n : ℕ) (fs : List Formula) (i : ℕ) → EachBelow n fs → EachBelow n (without fs i)
without-below n fs i b =
    masked-below n fs (without fs i) (λ j. j ≢ i)
    (without-masked fs fs (λ j. Unit {0}) (λ j. j ≢ i) i (all-masked fs (λ j. Unit {0}) (λ j. tt)) (λ j d. (tt, d)) (λ j u d. d)) b

module _ (certify : UnsolvedHaveCertificates) (scope : Scope) (low : scope.declared ≤ scope.named) where
  -- each item in turn stays or goes
  record IsDecided (fs : List Formula) (n : ℕ) : Type 0 where
    core : List ℕ
    left : List Formula
    is : IsCoreBelow scope fs n core
    masked : IsMasked fs (IsLeft core n) left

  decided : (fs : List Formula) → EachBelow scope.named fs → (n : ℕ) → IsDecided fs n
  decided fs b zero = record {
    core = [];
    left = fs;
    is = record { ascending = refl; items = All-nil (λ i. i < 0); kept = All-nil _; dropped = λ i l c. absurd (omega (arith, l)) };
    masked = all-masked fs (IsLeft [] 0) (λ j. inr (omega arith));
  }
  decided fs b (suc n) = next (decided fs b n)
    where
      next : IsDecided fs n → IsDecided fs (suc n)
      next h =
          let more : n + 1 ≡ suc n = omega arith in
          ⊎_elim
          (λ s.
          let q = next-stays scope fs h.left h.core n h.is h.masked h.left (refl, record { set = s.0; named = s.1.named; solves = s.1.solves }) in
          subst (IsDecided fs) more (record { core = _; left = h.left; is = q.0; masked = q.1 }))
          (λ blocks.
          let q = next-goes scope fs h.left h.core n h.is h.masked (without h.left n) [] refl
          (blocks-all scope (without h.left n) _ (λ j l e. absurd (cc)) blocks) in
          subst (IsDecided fs) more (record { core = h.core; left = without h.left n; is = q.0; masked = q.1 }))
          (least-or-none scope (without h.left n) low (without-below scope.named h.left n (masked-below scope.named fs h.left (IsLeft h.core n) h.masked b)))

  -- a least step without each of these items
  least-sets : (ms : List Formula) → EachBelow scope.named ms → (is : List ℕ) → All (λ i. HasStep scope (without ms i)) is →
      (sets : List (List ℕ)) × AllZip (λ i s. IsLeastStep scope (without ms i) s) is sets
  least-sets ms b [] h = ([], tt)
  least-sets ms b (i ∷ is) h = with-rest (least-sets ms b is (All-tail (λ i. HasStep scope (without ms i)) i is h))
    where
      with-rest : ((sets : List (List ℕ)) × AllZip (λ i s. IsLeastStep scope (without ms i) s) is sets) →
          (sets : List (List ℕ)) × AllZip (λ i s. IsLeastStep scope (without ms i) s) (i ∷ is) sets
      with-rest q = ⊎_elim
          (λ s. (s.0 ∷ q.0, (s.1, q.1)))
          (λ none. let one = All-head (λ i. HasStep scope (without ms i)) i is h in absurd (none one.set one.solves))
          (least-or-none scope (without ms i) low (without-below scope.named ms i b))

  module _ (fs : List Formula) (b : EachBelow scope.named fs) (blocks : Blocks scope fs) where
    explanation : HasExplanation scope fs
    explanation =
        let h = decided fs b (length fs) in
        let core : IsCore scope fs h.core = core-all scope fs (length fs) h.core refl h.is in
        let masked : IsMasked fs (Contains h.core) h.left = left-all fs h.left (length fs) h.core refl h.is.items h.masked in
        let c = masked-below scope.named fs h.left (Contains h.core) masked b in
        let none = core-blocks scope fs h.left h.core masked blocks core in
        let lines = certify scope h.left low (all-below scope.named h.left c) (λ set a l s. none set s) in
        let sets = least-sets h.left c h.core (each-open scope fs h.left h.core masked core) in
        blocked h.core lines.lines sets.0 (explained scope fs h.left h.core masked lines.lines sets.0 blocks core lines.valid sets.1)

  pub has-explanation : (fs : List Formula) → All (ReadsBelow scope.named) fs → HasExplanation scope fs
  has-explanation fs h = ⊎_elim
      (λ s. possible s.0 (record { solves = s.1.solves; named = s.1.named }))
      (explanation fs (each-below scope.named fs h))
      (least-or-none scope fs low (each-below scope.named fs h))
