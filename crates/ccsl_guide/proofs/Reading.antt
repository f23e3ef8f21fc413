-- Formulas that read named clocks.
use Rattle.std.proofs.Common.{◌≡◌, ℕ, ◌<◌, true, ◌||◌, refl}
use Rattle.std.proofs.lemmas.Bool.{eq-eqb, or_left, or_right}
use Rattle.ccsl_formula.specs.Formula.{Formula, FTrue, FFalse, FVar, FNot, FAnd, FOr, FIff}
use Rattle.ccsl_formula.specs.Variables.{ReadsBelow, reads}
use Rattle.ccsl_guide.specs.Named.{IsNamed}

left : (n : ℕ) (f g : Formula) → ((v : ℕ) → (reads f v || reads g v) ≡ true → v < n) → ReadsBelow n f
left n f g h = λ v r. h v (or_left (reads f v) (reads g v) r)

right : (n : ℕ) (f g : Formula) → ((v : ℕ) → (reads f v || reads g v) ≡ true → v < n) → ReadsBelow n g
right n f g h = λ v r. h v (or_right (reads f v) (reads g v) r)

pub named-formula : (n : ℕ) (f : Formula) → ReadsBelow n f → IsNamed n f
named-formula n FTrue h = tt
named-formula n FFalse h = tt
named-formula n (FVar x) h = h x (eq-eqb x x refl)
named-formula n (FNot f) h = named-formula n f h
named-formula n (FAnd f g) h = (named-formula n f (left n f g h), named-formula n g (right n f g h))
named-formula n (FOr f g) h = (named-formula n f (left n f g h), named-formula n g (right n f g h))
named-formula n (FIff f g) h = (named-formula n f (left n f g h), named-formula n g (right n f g h))
