-- What the solver answers. This project's own.
use Rattle.std.specs.Prelude.{ℕ, List, true, false, ◌≡◌, ◌<◌}
use Rattle.ccsl_base.specs.Clocks.{ticks_in}
use Rattle.ccsl_formula.specs.declared.scope.Scope.{Scope}
use Rattle.ccsl_formula.specs.declared.truth3.Truth3.TheVariants.{Open}
use Rattle.ccsl_formula.specs.Truth.{Part, Assignment}
use Rattle.ccsl_formula.specs.Agreement.{Agrees}
use Rattle.ccsl_formula.specs.Formula.{Formula, in_set}
use Rattle.ccsl_refute.specs.declared.line.Lit.{Lit}
use Rattle.ccsl_refute.specs.declared.line.Line.{Line}
use Rattle.ccsl_refute.specs.Validity.{are_valid, is_certificate}
use Rattle.ccsl_refute.specs.Meaning.{Solves}
use Rattle.ccsl_solve.specs.declared.solver.Answer.{Answer}
use Rattle.ccsl_solve.specs.declared.solver.Answer.TheVariants.{Step, Refuted}
use Rattle.ccsl_solve.specs.Better.{is_better}

-- s has a declared member and named ones only, satisfies all formulas, has the values of p,
-- and no values of all clocks that do so too are better
pub record IsBestStep (scope : Scope) (formulas : List Formula) (wishes : List Lit) (p : Part) (s : List ℕ) : Type 0 where
  pub solves : Solves scope formulas (in_set s)
  pub agrees : Agrees (in_set s) p
  pub inside : (x : ℕ) → ticks_in x s ≡ true → x < scope.named
  pub best : (t : Assignment) → Agrees t p → Solves scope formulas t → is_better wishes t (in_set s) ≡ false

-- there are no values with a declared clock that ticks that satisfy all formulas and are those of p;
-- the lines are valid, and a certificate where p knows nothing
pub record IsRefuted (scope : Scope) (formulas : List Formula) (p : Part) (lines : List Line) : Type 0 where
  pub none : (v : Assignment) → Agrees v p → Solves scope formulas v → ⊥
  pub valid : are_valid scope formulas lines ≡ true
  pub certificate : ((x : ℕ) → p x ≡ Open) → is_certificate scope formulas lines ≡ true

abbrev pub AnswersBest : Scope → List Formula → List Lit → Part → Answer → Type 0
AnswersBest scope formulas wishes p (Step s) = IsBestStep scope formulas wishes p s
AnswersBest scope formulas wishes p (Refuted lines) = IsRefuted scope formulas p lines

-- s has a declared member and named ones only, satisfies all formulas and has the values of p
pub record IsStep (scope : Scope) (formulas : List Formula) (p : Part) (s : List ℕ) : Type 0 where
  pub solves : Solves scope formulas (in_set s)
  pub agrees : Agrees (in_set s) p
  pub inside : (x : ℕ) → ticks_in x s ≡ true → x < scope.named

abbrev pub Answers : Scope → List Formula → Part → Answer → Type 0
Answers scope formulas p (Step s) = IsStep scope formulas p s
Answers scope formulas p (Refuted lines) = IsRefuted scope formulas p lines
