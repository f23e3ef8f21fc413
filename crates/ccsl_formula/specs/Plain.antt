-- The formula that boxes hold.
use Rattle.ccsl_formula.specs.declared.formula.Formula.{Formula as Boxed, Not', And', Or', Iff'}
use Rattle.ccsl_formula.specs.declared.formula.Formula.TheVariants.{True, False, Var}
use Rattle.ccsl_formula.specs.Formula.{Formula, FTrue, FFalse, FVar, FNot, FAnd, FOr, FIff}

abbrev pub plain : Boxed → Formula
plain True = FTrue
plain False = FFalse
plain (Var x) = FVar x
plain (Not' p f) = FNot (plain f)
plain (And' p f q g) = FAnd (plain f) (plain g)
plain (Or' p f q g) = FOr (plain f) (plain g)
plain (Iff' p f q g) = FIff (plain f) (plain g)
