-- Constants in formulas, and what it is to fold them.
use Rattle.std.specs.Prelude.{◌≡◌, Bool, true, false, not, ◌&&◌, ◌⊎◌}
use Rattle.ccsl_formula.specs.Formula.{Formula, FTrue, FFalse, FVar, FNot, FAnd, FOr, FIff}

-- whether a formula is a constant
abbrev pub is_constant : Formula → Bool
is_constant FTrue = true
is_constant FFalse = true
is_constant (FVar x) = false
is_constant (FNot f) = false
is_constant (FAnd f g) = false
is_constant (FOr f g) = false
is_constant (FIff f g) = false

-- no constant stands under a connective
abbrev pub is_folded : Formula → Bool
is_folded FTrue = true
is_folded FFalse = true
is_folded (FVar x) = true
is_folded (FNot f) = not (is_constant f) && is_folded f
is_folded (FAnd f g) = not (is_constant f) && not (is_constant g) && is_folded f && is_folded g
is_folded (FOr f g) = not (is_constant f) && not (is_constant g) && is_folded f && is_folded g
is_folded (FIff f g) = not (is_constant f) && not (is_constant g) && is_folded f && is_folded g

-- the negation, where a constant becomes the other one
abbrev pub negation : Formula → Formula
negation FTrue = FFalse
negation FFalse = FTrue
negation f = FNot f

-- one of two formulas
abbrev pub IsEither : Formula → Formula → Formula → Type 0
IsEither f g r = (r ≡ f) ⊎ (r ≡ g)
