-- Certificates, where items are taken out.
use Rattle.std.proofs.Common.{◌≡◌, ℕ, List, [], ◌∷◌, ◌++◌, true, false, ◌&&◌, Some, None, slice_get, refl, sym, ap, ◌∙◌, ⊎_elim}
use Rattle.std.specs.List.{All, Contains}
use Rattle.std.proofs.lemmas.Bool.{and_parts, and_from}
use Rattle.std.proofs.lemmas.List.Elements.{All-nil, All-cons, All-head, All-tail, All-weaker}
use Rattle.ccsl_formula.specs.declared.scope.Scope.{Scope}
use Rattle.ccsl_formula.specs.Truth.{Part}
use Rattle.ccsl_formula.specs.Formula.{Formula, in_set}
use Rattle.ccsl_refute.specs.declared.line.Line.{Line}
use Rattle.ccsl_refute.specs.declared.line.Line.TheVariants.{Nonempty, Item, Derived}
use Rattle.ccsl_refute.specs.Literals.{falsified, are_proper}
use Rattle.ccsl_refute.specs.Meaning.{Blocks}
use Rattle.ccsl_refute.specs.Validity.{is_refuted, is_valid, valid_from, are_valid, ends_empty, is_certificate}
use Rattle.ccsl_refute.proofs.FirstBad.{certificate-none}
use Rattle.ccsl_refute.proofs.Sound.{sound}
use Rattle.ccsl_explain.specs.Explained.{CitesOnly}
use Rattle.ccsl_explain.specs.Masked.{IsMasked}
use Rattle.ccsl_explain.specs.Used.{Cites}

pub certificate-blocks : (scope : Scope) (fs : List Formula) (lines : List Line) → is_certificate scope fs lines ≡ true → Blocks scope fs
certificate-blocks scope fs lines h set s = sound scope fs lines (in_set set) (certificate-none scope fs lines h) s

-- lines that cite only items whose formulas are the same are valid against either list
valid-same : (scope : Scope) (fs gs : List Formula) (earlier : List Line) (e : Line) → Cites (λ j. slice_get fs j ≡ slice_get gs j) e →
    is_valid scope fs earlier e ≡ true → is_valid scope gs earlier e ≡ true
valid-same scope fs gs earlier Nonempty c h = refl
valid-same scope fs gs earlier (Item i lits) c h = sym (ap (λ f. are_proper scope.named lits && is_refuted (falsified lits) f) c) ∙ h
valid-same scope fs gs earlier (Derived lits hints) c h = h

all-valid-same : (scope : Scope) (fs gs : List Formula) (earlier lines : List Line) → All (Cites (λ j. slice_get fs j ≡ slice_get gs j)) lines →
    valid_from scope fs earlier lines ≡ true → valid_from scope gs earlier lines ≡ true
all-valid-same scope fs gs earlier [] c h = refl
all-valid-same scope fs gs earlier (e ∷ lines) c h =
    let P = λ (l : Line). Cites (λ j. slice_get fs j ≡ slice_get gs j) l in
    let parts = and_parts (is_valid scope fs earlier e) (valid_from scope fs (earlier ++ e ∷ []) lines) h in
    and_from (is_valid scope gs earlier e) (valid_from scope gs (earlier ++ e ∷ []) lines)
    (valid-same scope fs gs earlier e (All-head P e lines c) parts.0)
    (all-valid-same scope fs gs (earlier ++ e ∷ []) lines (All-tail P e lines c) parts.1)

pub certificate-same : (scope : Scope) (fs gs : List Formula) (lines : List Line) → All (Cites (λ j. slice_get fs j ≡ slice_get gs j)) lines →
    is_certificate scope fs lines ≡ true → is_certificate scope gs lines ≡ true
certificate-same scope fs gs lines c h =
    let parts = and_parts (are_valid scope fs lines) (ends_empty scope.declared lines) h in
    and_from (are_valid scope gs lines) (ends_empty scope.declared lines) (all-valid-same scope fs gs [] lines c parts.0) parts.1

module _ (scope : Scope) (fs ms : List Formula) (P : ℕ → Type 0) (m : IsMasked fs P ms) where
  -- an item that is left, with its formula
  abbrev IsLeftAt : ℕ → Type 0
  IsLeftAt j = P j × (slice_get ms j ≡ slice_get fs j)

  refuted-left : (j : ℕ) (p : Part) (f : Formula) → slice_get ms j ≡ Some f → is_refuted p (Some f) ≡ true → IsLeftAt j
  refuted-left j p f g r =
      ⊎_elim
      (λ e. let bad : true ≡ false = sym r ∙ ap (λ (h : Formula). is_refuted p (Some h)) e in absurd (cc))
      (λ k. (k.0, g ∙ sym k.1))
      (m.others j f g)

  item-left : (j : ℕ) (p : Part) → is_refuted p (slice_get ms j) ≡ true → IsLeftAt j
  item-left j p r =
      (elim (slice_get ms j) as (λ o. slice_get ms j ≡ o → is_refuted p o ≡ true → IsLeftAt j)
      [ None ↦ λ g q. absurd (cc) | Some f ↦ λ g q. refuted-left j p f g q ]) refl r

  valid-left : (earlier : List Line) (e : Line) → is_valid scope ms earlier e ≡ true → Cites IsLeftAt e
  valid-left earlier Nonempty h = tt
  valid-left earlier (Item j lits) h = item-left j (falsified lits) (and_parts (are_proper scope.named lits) (is_refuted (falsified lits) (slice_get ms j)) h).1
  valid-left earlier (Derived lits hints) h = tt

  all-left : (earlier lines : List Line) → valid_from scope ms earlier lines ≡ true → All (Cites IsLeftAt) lines
  all-left earlier [] h = All-nil (Cites IsLeftAt)
  all-left earlier (e ∷ lines) h =
      let parts = and_parts (is_valid scope ms earlier e) (valid_from scope ms (earlier ++ e ∷ []) lines) h in
      All-cons (Cites IsLeftAt) e lines (valid-left earlier e parts.0) (all-left (earlier ++ e ∷ []) lines parts.1)

pub cites-more : (P Q : ℕ → Type 0) → ((j : ℕ) → P j → Q j) → (e : Line) → Cites P e → Cites Q e
cites-more P Q h Nonempty c = tt
cites-more P Q h (Item j lits) c = h j c
cites-more P Q h (Derived lits hints) c = tt

-- a certificate for the items that are left is one for all items
pub certificate-masked : (scope : Scope) (fs ms : List Formula) (P : ℕ → Type 0) (lines : List Line) → IsMasked fs P ms → is_certificate scope ms lines ≡ true →
    is_certificate scope fs lines ≡ true
certificate-masked scope fs ms P lines m h =
    let parts = and_parts (are_valid scope ms lines) (ends_empty scope.declared lines) h in
    certificate-same scope ms fs lines
    (All-weaker (Cites (IsLeftAt scope fs ms P m)) (Cites (λ j. slice_get ms j ≡ slice_get fs j))
    (cites-more (IsLeftAt scope fs ms P m) (λ j. slice_get ms j ≡ slice_get fs j) (λ j c. c.1)) lines (all-left scope fs ms P m [] lines parts.0))
    h

cites-core : (core : List ℕ) (e : Line) → Cites (Contains core) e → CitesOnly core e
cites-core core Nonempty c = tt
cites-core core (Item j lits) c = c
cites-core core (Derived lits hints) c = tt

-- and it cites no others
pub cites-masked : (scope : Scope) (fs ms : List Formula) (core : List ℕ) (lines : List Line) → IsMasked fs (Contains core) ms
    → is_certificate scope ms lines ≡ true →
    All (CitesOnly core) lines
cites-masked scope fs ms core lines m h =
    let parts = and_parts (are_valid scope ms lines) (ends_empty scope.declared lines) h in
    All-weaker (Cites (IsLeftAt scope fs ms (Contains core) m)) (CitesOnly core)
    (λ e c. cites-core core e (cites-more (IsLeftAt scope fs ms (Contains core) m) (Contains core) (λ j k. k.0) e c))
    lines (all-left scope fs ms (Contains core) m [] lines parts.0)
