-- What the guide is told of formulas and lines.
use Rattle.std.proofs.Common.{ℕ, zero, suc, List, [], ◌∷◌, All, map, arith}
use Rattle.ccsl_formula.specs.declared.formula.Formula.{Formula as Boxed}
use Rattle.ccsl_formula.specs.Plain.{plain}
use Rattle.ccsl_formula.specs.Variables.{ReadsBelow}
use Rattle.ccsl_refute.specs.declared.line.Line.{Line}
use Rattle.ccsl_refute.proofs.Bounds.{lines-below}
use Rattle.ccsl_guide.specs.declared.problem.Problem.{Problem}
use Rattle.ccsl_guide.specs.Named.{AreNamed}
use Rattle.ccsl_solve.specs.Posed.{AllBelow, AreValid, asked}

pub each-reads : (n : ℕ) (fs : List Boxed) → AllBelow n (map plain fs) → All (λ f. ReadsBelow n (plain f)) fs
each-reads n [] h k d l = absurd (omega arith)
each-reads n (f ∷ fs) h zero d l = h.0
each-reads n (f ∷ fs) h (suc k) d l = each-reads n fs h.1 k d (omega arith)

pub valid-named : (q : Problem) (lines : List Line) → AreValid q lines → AreNamed q.scope.named lines
valid-named q lines v = lines-below q.scope (asked q) [] lines v
