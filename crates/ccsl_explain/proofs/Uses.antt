-- The items that the lines of a certificate cite block.
use Rattle.std.proofs.Common.{◌≡◌, ◌⊎◌, ℕ, zero, suc, ◌<◌, ◌+◌, List, [], ◌∷◌, ◌++◌, length, take, drop, get_or, Bool, true, false, cond, Some, slice_get, refl}
use Rattle.std.proofs.Common.{sym, ap, ◌∙◌, inl, inr, arith, append-nil}
use Rattle.std.specs.List.{All}
use Rattle.std.proofs.lemmas.List.{take_all, drop_all}
use Rattle.std.proofs.lemmas.List.Elements.{All-weaker, All-more}
use Rattle.ccsl_formula.specs.declared.scope.Scope.{Scope}
use Rattle.ccsl_formula.specs.Formula.{Formula, FTrue}
use Rattle.ccsl_refute.specs.declared.line.Line.{Line}
use Rattle.ccsl_refute.specs.Validity.{is_certificate}
use Rattle.ccsl_explain.specs.Core.{Block}
use Rattle.ccsl_explain.specs.Masked.{IsMasked}
use Rattle.ccsl_explain.specs.Used.{Cites, IsUsed, KeepsUsed}
use Rattle.ccsl_explain.proofs.Certificates.{certificate-blocks, certificate-same, cites-more}
use Rattle.ccsl_explain.proofs.Masks.{block-masked}

-- a list that is written back in place of another one
pub written : {A : Type 0} (n : ℕ) (old new : List A) → length new ≡ n → length old ≡ n → take n (new ++ drop (length new) old) ≡ new
written n old new a b =
    ap (λ xs. take n (new ++ xs)) (drop_all (length new) old (omega arith)) ∙ ap (take n) (append-nil new) ∙ take_all n new (omega arith)

-- one more line
pub more-cited : (us ws : List Bool) (lines : List Line) (i : ℕ) (d : Line) → i < length lines → KeepsUsed us ws → All (Cites (IsUsed us)) (take i lines) →
    Cites (IsUsed ws) (get_or lines i d) → All (Cites (IsUsed ws)) (take (i + 1) lines)
more-cited us ws lines i d l k h c =
    All-more (Cites (IsUsed ws)) lines i d l
    (All-weaker (Cites (IsUsed us)) (Cites (IsUsed ws)) (cites-more (IsUsed us) (IsUsed ws) k.at) (take i lines) h) c

-- the formulas of the items in use
spared : List Bool → List Formula → List Formula
spared [] fs = fs
spared (u ∷ us) [] = []
spared (u ∷ us) (f ∷ fs) = cond u f FTrue ∷ spared us fs

spared-same : (us : List Bool) (fs : List Formula) (j : ℕ) → IsUsed us j → slice_get fs j ≡ slice_get (spared us fs) j
unfolding spared
spared-same [] fs j u = refl
spared-same (b ∷ us) [] j u = refl
spared-same (true ∷ us) (f ∷ fs) zero u = refl
spared-same (false ∷ us) (f ∷ fs) zero u = absurd (u refl)
spared-same (b ∷ us) (f ∷ fs) (suc j) u = spared-same us fs j u

spared-others : (us : List Bool) (fs : List Formula) (j : ℕ) (f : Formula) → slice_get (spared us fs) j ≡ Some f
    → (f ≡ FTrue) ⊎ (IsUsed us j × (slice_get fs j ≡ Some f))
unfolding spared
spared-others [] fs j f g = inr (λ e. absurd (cc), g)
spared-others (b ∷ us) [] j f g = absurd (cc)
spared-others (true ∷ us) (h ∷ fs) zero f g = inr (λ e. absurd (cc), g)
spared-others (false ∷ us) (h ∷ fs) zero f g = inl (cc)
spared-others (b ∷ us) (h ∷ fs) (suc j) f g = spared-others us fs j f g

spared-masked : (us : List Bool) (fs : List Formula) → IsMasked fs (IsUsed us) (spared us fs)
spared-masked us fs = record { kept = λ j f u g. sym (spared-same us fs j u) ∙ g; others = spared-others us fs }

-- the items that the lines cite block
pub used-block : (scope : Scope) (fs : List Formula) (us : List Bool) (lines : List Line) → All (Cites (IsUsed us)) lines → is_certificate scope fs lines ≡ true
    → Block scope fs (IsUsed us)
used-block scope fs us lines c h =
    block-masked scope fs (spared us fs) (IsUsed us) (spared-masked us fs)
    (certificate-blocks scope (spared us fs) lines
    (certificate-same scope fs (spared us fs) lines
    (All-weaker (Cites (IsUsed us)) (Cites (λ j. slice_get fs j ≡ slice_get (spared us fs) j))
    (cites-more (IsUsed us) (λ j. slice_get fs j ≡ slice_get (spared us fs) j) (spared-same us fs)) lines c) h))
