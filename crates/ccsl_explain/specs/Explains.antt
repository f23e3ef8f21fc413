-- What an answer of the program says of the formulas of all items.
use Rattle.std.specs.Prelude.{List}
use Rattle.ccsl_formula.specs.declared.scope.Scope.{Scope}
use Rattle.ccsl_formula.specs.Formula.{Formula}
use Rattle.ccsl_explain.specs.declared.explanation.Explained.{Explained}
use Rattle.ccsl_explain.specs.declared.explanation.Explained.TheVariants.{Open, Blocked}
use Rattle.ccsl_explain.specs.Explained.{IsPossible, IsExplained}

abbrev pub Explains : Scope → List Formula → Explained → Type 0
Explains scope formulas (Open s) = IsPossible scope formulas s
Explains scope formulas (Blocked core lines without) = IsExplained scope formulas core lines without
