-- Formulas that each read clocks below a bound alone, as the solver asks it.
use Rattle.std.proofs.Common.{ℕ, List, [], ◌∷◌, All}
use Rattle.std.specs.List.{AllByRecursion}
use Rattle.std.proofs.lemmas.List.Elements.{recursion_from_All}
use Rattle.ccsl_formula.specs.Formula.{Formula}
use Rattle.ccsl_formula.specs.Variables.{ReadsBelow}
use Rattle.ccsl_solve.specs.Posed.{AllBelow}

by-recursion : (n : ℕ) (fs : List Formula) → AllByRecursion (ReadsBelow n) fs → AllBelow n fs
by-recursion n [] h = tt
by-recursion n (f ∷ fs) h = (h.0, by-recursion n fs h.1)

pub all-below : (n : ℕ) (fs : List Formula) → All (ReadsBelow n) fs → AllBelow n fs
all-below n fs h = by-recursion n fs (recursion_from_All (ReadsBelow n) fs h)
