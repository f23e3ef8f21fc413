-- What refutes some values by itself: the formula of an item, or the clause of a line.
use Rattle.std.specs.Prelude.{List, Bool, true, ◌≡◌, slice_get}
use Rattle.ccsl_formula.specs.Truth.{Part}
use Rattle.ccsl_refute.specs.declared.line.Lit.{Lit}
use Rattle.ccsl_refute.specs.declared.line.Line.{Line}
use Rattle.ccsl_refute.specs.Validity.{fails_at, is_refuted}
use Rattle.ccsl_guide.specs.declared.problem.Problem.{Problem}
use Rattle.ccsl_guide.specs.declared.reason.Reason.{Reason}
use Rattle.ccsl_guide.specs.declared.reason.Reason.TheVariants.{Item, Clause}
use Rattle.ccsl_solve.specs.Under.{with_lit, negated}
use Rattle.ccsl_solve.specs.Posed.{asked}

-- whether the reason refutes the values
abbrev pub refutes : Problem → List Line → Part → Reason → Bool
refutes q lines p (Item k) = is_refuted p (slice_get (asked q) k)
refutes q lines p (Clause j) = fails_at q.scope.declared lines p j

-- the reason refutes the values together with the negation of the literal
abbrev pub IsForced : Problem → List Line → Part → Lit → Reason → Type 0
IsForced q lines p l r = refutes q lines (with_lit p (negated l)) r ≡ true
