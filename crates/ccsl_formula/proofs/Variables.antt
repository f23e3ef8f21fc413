-- What a formula says depends on its variables alone.
use Rattle.std.proofs.Common.{◌≡◌, ℕ, Bool, true, false, not, ◌&&◌, ◌||◌, refl, ap, ap₂, ◌∙◌}
use Rattle.ccsl_formula.specs.Truth.{known_as, not3, and3, or3, iff3, Part, Assignment}
use Rattle.ccsl_formula.specs.Formula.{Formula, FTrue, FFalse, FVar, FNot, FAnd, FOr, FIff, truth, kleene, same}
use Rattle.ccsl_formula.specs.Variables.{reads}
use Rattle.std.proofs.lemmas.Bool.{eq-eqb, or_left, or_right}

pub truth-same : (f : Formula) (v w : Assignment) → ((x : ℕ) → reads f x ≡ true → v x ≡ w x) → truth f v ≡ truth f w
truth-same FTrue v w h = refl
truth-same FFalse v w h = refl
truth-same (FVar x) v w h = h x (eq-eqb x x refl)
truth-same (FNot f) v w h = ap not (truth-same f v w h)
truth-same (FAnd f g) v w h =
    ap₂ (λ a b. a && b) (truth-same f v w (λ x e. h x (or_left (reads f x) (reads g x) e))) (truth-same g v w (λ x e. h x (or_right (reads f x) (reads g x) e)))
truth-same (FOr f g) v w h =
    ap₂ (λ a b. a || b) (truth-same f v w (λ x e. h x (or_left (reads f x) (reads g x) e))) (truth-same g v w (λ x e. h x (or_right (reads f x) (reads g x) e)))
truth-same (FIff f g) v w h =
    ap₂ same (truth-same f v w (λ x e. h x (or_left (reads f x) (reads g x) e))) (truth-same g v w (λ x e. h x (or_right (reads f x) (reads g x) e)))

pub kleene-same : (f : Formula) (p q : Part) → ((x : ℕ) → reads f x ≡ true → p x ≡ q x) → kleene f p ≡ kleene f q
kleene-same FTrue p q h = refl
kleene-same FFalse p q h = refl
kleene-same (FVar x) p q h = h x (eq-eqb x x refl)
kleene-same (FNot f) p q h = ap not3 (kleene-same f p q h)
kleene-same (FAnd f g) p q h =
    ap₂ and3 (kleene-same f p q (λ x e. h x (or_left (reads f x) (reads g x) e))) (kleene-same g p q (λ x e. h x (or_right (reads f x) (reads g x) e)))
kleene-same (FOr f g) p q h =
    ap₂ or3 (kleene-same f p q (λ x e. h x (or_left (reads f x) (reads g x) e))) (kleene-same g p q (λ x e. h x (or_right (reads f x) (reads g x) e)))
kleene-same (FIff f g) p q h =
    ap₂ iff3 (kleene-same f p q (λ x e. h x (or_left (reads f x) (reads g x) e))) (kleene-same g p q (λ x e. h x (or_right (reads f x) (reads g x) e)))

-- the three-valued tables at known values are the two-valued ones
not3-known : (a : Bool) → not3 (known_as a) ≡ known_as (not a)
not3-known true = refl
not3-known false = refl

and3-known : (a b : Bool) → and3 (known_as a) (known_as b) ≡ known_as (a && b)
and3-known true b = refl
and3-known false b = refl

or3-known : (a b : Bool) → or3 (known_as a) (known_as b) ≡ known_as (a || b)
or3-known true b = refl
or3-known false b = refl

iff3-known : (a b : Bool) → iff3 (known_as a) (known_as b) ≡ known_as (same a b)
iff3-known true b = refl
iff3-known false b = not3-known b

-- the Kleene value where all is known
known-all : (f : Formula) (v : Assignment) → kleene f (λ x. known_as (v x)) ≡ known_as (truth f v)
known-all FTrue v = refl
known-all FFalse v = refl
known-all (FVar x) v = refl
known-all (FNot f) v = ap not3 (known-all f v) ∙ not3-known (truth f v)
known-all (FAnd f g) v = ap₂ and3 (known-all f v) (known-all g v) ∙ and3-known (truth f v) (truth g v)
known-all (FOr f g) v = ap₂ or3 (known-all f v) (known-all g v) ∙ or3-known (truth f v) (truth g v)
known-all (FIff f g) v = ap₂ iff3 (known-all f v) (known-all g v) ∙ iff3-known (truth f v) (truth g v)

pub kleene-known : (f : Formula) (p : Part) (v : Assignment) → ((x : ℕ) → reads f x ≡ true → p x ≡ known_as (v x)) → kleene f p ≡ known_as (truth f v)
kleene-known f p v h = kleene-same f p (λ x. known_as (v x)) h ∙ known-all f v
