-- From what the parts of an explanation say to the whole.
use Rattle.std.proofs.Common.{◌≡◌, ℕ, List, [], ◌∷◌, get_or, true}
use Rattle.std.specs.List.{All, AllZip, Contains}
use Rattle.std.proofs.lemmas.List.Elements.{Contains-get_or}
use Rattle.ccsl_formula.specs.declared.scope.Scope.{Scope}
use Rattle.ccsl_formula.specs.Formula.{Formula}
use Rattle.ccsl_refute.specs.declared.line.Line.{Line}
use Rattle.ccsl_refute.specs.Meaning.{Blocks}
use Rattle.ccsl_refute.specs.Validity.{is_certificate}
use Rattle.ccsl_explain.specs.Asked.{HasStep}
use Rattle.ccsl_explain.specs.Core.{IsCore}
use Rattle.ccsl_explain.specs.Explained.{AreLeast, IsExplained}
use Rattle.ccsl_explain.specs.Least.{IsOther}
use Rattle.ccsl_explain.specs.LeastSteps.{IsLeastStep}
use Rattle.ccsl_explain.specs.Masked.{without, IsMasked}
use Rattle.ccsl_explain.proofs.Certificates.{certificate-masked, cites-masked}
use Rattle.ccsl_explain.proofs.Cores.{core-block, minimal}
use Rattle.ccsl_explain.proofs.LeastSets.{least-without}
use Rattle.ccsl_explain.proofs.Masks.{without-masked, blocks-masked, step-masked}

module _ (scope : Scope) (fs ms : List Formula) (core : List ℕ) (m : IsMasked fs (Contains core) ms) where
  others-masked : (i : ℕ) → IsMasked fs (IsOther core i) (without ms i)
  others-masked i = without-masked fs ms (Contains core) (IsOther core i) i m (λ j o. o) (λ j c d. (c, d))

  -- the formulas of the core block
  pub core-blocks : Blocks scope fs → IsCore scope fs core → Blocks scope ms
  core-blocks b h = blocks-masked scope fs ms (Contains core) m (core-block scope fs core b h)

  -- and no longer without any one of them
  pub each-open : IsCore scope fs core → All (λ i. HasStep scope (without ms i)) core
  each-open h k d l =
      let i = get_or core k d in
      step-masked scope fs (without ms i) (IsOther core i) (others-masked i) (minimal scope fs core h i (Contains-get_or core k d l))

  least-each : (is : List ℕ) (sets : List (List ℕ)) → AllZip (λ i s. IsLeastStep scope (without ms i) s) is sets → AreLeast scope fs core is sets
  least-each [] [] h = tt
  least-each [] (s ∷ sets) h = h
  least-each (i ∷ is) [] h = h
  least-each (i ∷ is) (s ∷ sets) h = (least-without scope fs (without ms i) core i s (others-masked i) h.0, least-each is sets h.1)

  -- the whole explanation
  pub explained : (lines : List Line) (sets : List (List ℕ)) → Blocks scope fs → IsCore scope fs core → is_certificate scope ms lines ≡ true →
      AllZip (λ i s. IsLeastStep scope (without ms i) s) core sets → IsExplained scope fs core lines sets
  explained lines sets b h k l = record {
    blocks = b;
    is_core = h;
    certificate = certificate-masked scope fs ms (Contains core) lines m k;
    cites = cites-masked scope fs ms core lines m k;
    least = least-each core sets l;
  }
