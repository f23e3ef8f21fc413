-- The variables of a formula.
use Rattle.std.specs.Prelude.{ℕ, Bool, true, false, ◌||◌, ◌<◌, ◌≡◌, nat_eq}
use Rattle.ccsl_formula.specs.Formula.{Formula, FTrue, FFalse, FVar, FNot, FAnd, FOr, FIff}

-- whether a variable occurs
abbrev pub reads : Formula → ℕ → Bool
reads FTrue v = false
reads FFalse v = false
reads (FVar x) v = nat_eq v x
reads (FNot f) v = reads f v
reads (FAnd f g) v = reads f v || reads g v
reads (FOr f g) v = reads f v || reads g v
reads (FIff f g) v = reads f v || reads g v

-- each variable is below X
abbrev pub ReadsBelow : ℕ → Formula → Type 0
ReadsBelow X f = (v : ℕ) → reads f v ≡ true → v < X
