-- What to do next in a search. This project's own.
use Rattle.std.specs.Prelude.{ℕ, List, true, ◌≡◌, ◌≢◌, ◌<◌, ◌⊎◌, Option, Some, None, slice_get}
use Rattle.ccsl_formula.specs.declared.truth3.Truth3.TheVariants.{Open}
use Rattle.ccsl_formula.specs.Truth.{Part}
use Rattle.ccsl_refute.specs.declared.line.Lit.{Lit}
use Rattle.ccsl_refute.specs.declared.line.Line.{Line}
use Rattle.ccsl_guide.specs.declared.problem.Problem.{Problem}
use Rattle.ccsl_guide.specs.declared.reason.Reason.{Reason}
use Rattle.ccsl_solve.specs.declared.plan.Plan.{Plan}
use Rattle.ccsl_solve.specs.declared.plan.Plan.TheVariants.{Broken, Complete, Try}
use Rattle.ccsl_solve.specs.Reasons.{refutes, IsForced}

-- the clocks of the first n wishes have values
abbrev pub AreSettled : List Lit → ℕ → Part → Type 0
AreSettled wishes n p = (i : ℕ) (l : Lit) → i < n → slice_get wishes i ≡ Some l → p l.clock ≢ Open

-- why a literal may be tried first: its negation is refuted, or it is the first wish that is open, or all wishes have values
abbrev pub IsCause : Problem → List Line → Part → Lit → Option Reason → ℕ → Type 0
IsCause q lines p l (Some r) n = IsForced q lines p l r
IsCause q lines p l None n = (slice_get q.wishes.now n ≡ Some l) ⊎ (slice_get q.wishes.now n ≡ None)

-- a literal of a named clock that has no value, and may be tried first
pub record IsTry (q : Problem) (lines : List Line) (p : Part) (l : Lit) (by : Option Reason) (n : ℕ) : Type 0 where
  pub named : l.clock < q.scope.named
  pub free : p l.clock ≡ Open
  pub settled : AreSettled q.wishes.now n p
  pub cause : IsCause q lines p l by n

abbrev pub IsPlan : Problem → List Line → Part → Plan → Type 0
IsPlan q lines p (Broken r) = refutes q lines p r ≡ true
IsPlan q lines p Complete = (x : ℕ) → x < q.scope.named → p x ≢ Open
IsPlan q lines p (Try l by n) = IsTry q lines p l by n
