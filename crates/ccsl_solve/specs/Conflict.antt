-- What a conflict says. This project's own.
use Rattle.std.specs.Prelude.{ℕ, Bool, List, [], ◌∷◌, ◌++◌, reverse, true, not, ◌≡◌, ◌≢◌, Some}
use Rattle.ccsl_formula.specs.declared.scope.Scope.{Scope}
use Rattle.ccsl_formula.specs.declared.truth3.Truth3.TheVariants.{Open}
use Rattle.ccsl_formula.specs.Truth.{Part}
use Rattle.ccsl_formula.specs.Known.{known}
use Rattle.ccsl_refute.specs.declared.line.Lit.{Lit}
use Rattle.ccsl_refute.specs.declared.line.Line.{Line}
use Rattle.ccsl_refute.specs.Literals.{falsified, are_proper}
use Rattle.ccsl_refute.specs.Validity.{clause, line_at, closes}
use Rattle.ccsl_guide.specs.declared.problem.Problem.{Problem}
use Rattle.ccsl_solve.specs.declared.conflict.Conflict.{Conflict}
use Rattle.ccsl_solve.specs.Under.{Under, with_lit}
use Rattle.ccsl_solve.specs.Posed.{AreValid}

-- line j is there, and its clause says that not all values of q hold
pub record IsClause (scope : Scope) (lines : List Line) (j : ℕ) (q : Part) : Type 0 where
  pub line : Line
  pub found : line_at lines j ≡ Some line
  pub part : falsified (clause scope.declared line) ≡ q
  pub proper : are_proper scope.named (clause scope.declared line) ≡ true

-- q is within p, and the hints close from q, and from more as long as it is within p
pub record IsConflict (scope : Scope) (lines : List Line) (p q : Part) (hints : List ℕ) : Type 0 where
  pub within : Under q p
  pub closing : (r : Part) → Under q r → Under r p → closes scope.declared lines r hints ≡ true
  pub single : (j : ℕ) → hints ≡ j ∷ [] → IsClause scope lines j q

-- the conflict shows by these lines that not all values of p hold
abbrev pub IsConflictOf : Problem → List Line → Part → Conflict → Type 0
IsConflictOf q lines p c = IsConflict q.scope lines p (known c.part.value) (reverse c.hints.items)

-- a conflict of the values of p with a literal, whose clock it uses
pub record IsConflictWith (q : Problem) (lines : List Line) (p : Part) (l : Lit) (c : Conflict) : Type 0 where
  pub conflict : IsConflictOf q lines (with_lit p l) c
  pub uses : known c.part.value l.clock ≢ Open

-- the literal that denies the value of a clock
abbrev pub denied : ℕ × Bool → Lit
denied pair = record { clock = pair.0; positive = not pair.1 }

-- the literals that say that not all values of p hold
pub record IsDenial (n : ℕ) (lits : List Lit) (p : Part) : Type 0 where
  pub proper : are_proper n lits ≡ true
  pub part : falsified lits ≡ p

-- the old lines, and more after them
pub record Extends (old new : List Line) : Type 0 where
  pub added : List Line
  pub is : new ≡ old ++ added

-- valid lines: the old ones, and more after them
pub record AddsLines (q : Problem) (old new : List Line) : Type 0 where
  pub extends : Extends old new
  pub valid : AreValid q new
