-- The conditions of a question to the solver. This project's own.
use Rattle.std.specs.Prelude.{ℕ, List, [], ◌∷◌, true, map, ◌≡◌, ◌<◌, ◌≤◌, ◌^◌, length}
use Rattle.ccsl_formula.specs.Truth.{Part}
use Rattle.ccsl_formula.specs.Formula.{Formula}
use Rattle.ccsl_formula.specs.Variables.{ReadsBelow}
use Rattle.ccsl_formula.specs.Plain.{plain}
use Rattle.ccsl_base.specs.declared.limits.TheConstants.{MAX_CLOCKS}
use Rattle.ccsl_refute.specs.declared.line.Line.{Line}
use Rattle.ccsl_refute.specs.Literals.{positives}
use Rattle.ccsl_refute.specs.Validity.{are_valid}
use Rattle.ccsl_refute.specs.Below.{AreBelow}
use Rattle.ccsl_guide.specs.declared.problem.Problem.{Problem}
use Rattle.ccsl_solve.specs.Under.{IsInside}

-- each variable of each formula is below n
abbrev pub AllBelow : ℕ → List Formula → Type 0
AllBelow n [] = Unit {0}
AllBelow n (f ∷ fs) = ReadsBelow n f × AllBelow n fs

abbrev pub asked : Problem → List Formula
asked q = map plain q.formulas.now

-- the conditions, and that `nonempty` is what its name says
pub record IsPosed (q : Problem) : Type 0 where
  pub declared : q.scope.declared ≤ q.scope.named
  pub named : q.scope.named ≤ MAX_CLOCKS
  pub reads : AllBelow q.scope.named (asked q)
  pub few : length q.formulas.now < 2 ^ 32
  pub nonempty : q.nonempty.now ≡ positives q.scope.declared
  pub wishes : AreBelow q.scope.named q.wishes.now

-- the lines are valid
abbrev pub AreValid : Problem → List Line → Type 0
AreValid q lines = are_valid q.scope (asked q) lines ≡ true

-- what each part of a search is given: a problem that is posed, valid lines, and values of named clocks alone
pub record IsSound (q : Problem) (lines : List Line) (p : Part) : Type 0 where
  pub posed : IsPosed q
  pub valid : AreValid q lines
  pub inside : IsInside q.scope.named p
