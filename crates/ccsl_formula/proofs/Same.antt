-- Equal truth values.
use Rattle.std.proofs.Common.{◌≡◌, Bool, true, false, refl, sym}
use Rattle.ccsl_formula.specs.Formula.{same}

pub same-self : (b : Bool) → same b b ≡ true
same-self true = refl
same-self false = refl

pub same-if : (a b : Bool) → a ≡ b → same a b ≡ true
same-if true b e = sym e
same-if false true e = absurd (cc)
same-if false false e = refl

pub same-values : (a b : Bool) → same a b ≡ true → a ≡ b
same-values true b e = sym e
same-values false true e = e
same-values false false e = refl
