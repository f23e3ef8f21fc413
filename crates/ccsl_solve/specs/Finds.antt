-- What the search finds. This project's own.
use Rattle.std.specs.Prelude.{ℕ, List, [], ◌∷◌, false, ◌≡◌, ◌<◌, Option, Some, None}
use Rattle.ccsl_formula.specs.declared.truth3.Truth3.TheVariants.{Yes}
use Rattle.ccsl_formula.specs.Truth.{Part, Assignment}
use Rattle.ccsl_formula.specs.Agreement.{Agrees}
use Rattle.ccsl_formula.specs.Formula.{Formula, kleene}
use Rattle.ccsl_refute.specs.declared.line.Lit.{Lit}
use Rattle.ccsl_refute.specs.declared.line.Line.{Line}
use Rattle.ccsl_refute.specs.Meaning.{Solves}
use Rattle.ccsl_guide.specs.declared.problem.Problem.{Problem}
use Rattle.ccsl_solve.specs.declared.conflict.Conflict.{Conflict}
use Rattle.ccsl_solve.specs.Under.{Under, IsInside, filled, with_lit}
use Rattle.ccsl_solve.specs.Better.{is_better}
use Rattle.ccsl_solve.specs.Posed.{asked}
use Rattle.ccsl_solve.specs.Conflict.{IsConflictOf}

abbrev pub AllYes : List Formula → Part → Type 0
AllYes [] p = Unit {0}
AllYes (f ∷ fs) p = (kleene f p ≡ Yes) × AllYes fs p

-- m has the values of p, makes all formulas true and a declared clock tick, and no other set that does is better
pub record IsBestModel (q : Problem) (p m : Part) : Type 0 where
  pub within : Under p m
  pub all : AllYes (asked q) m
  pub member : (x : ℕ) × (x < q.scope.declared) × (m x ≡ Yes)
  pub inside : IsInside q.scope.named m
  pub best : (t : Assignment) → Agrees t p → Solves q.scope (asked q) t → is_better q.wishes.now t (filled m) ≡ false

-- the values after the search are a model, or they are as before, and in conflict
abbrev pub Finds : Problem → List Line → Part → Part → Option Conflict → Type 0
Finds q lines p m None = IsBestModel q p m
Finds q lines p m (Some c) = (m ≡ p) × IsConflictOf q lines p c

-- the same of a search with a literal that is true as well
abbrev pub FindsWith : Problem → List Line → Part → Lit → Part → Option Conflict → Type 0
FindsWith q lines p l m None = IsBestModel q (with_lit p l) m
FindsWith q lines p l m (Some c) = (m ≡ p) × IsConflictOf q lines (with_lit p l) c
