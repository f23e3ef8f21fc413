-- What a yes is worth.
use Rattle.std.specs.Prelude.{◌≡◌, ℕ, List, length}
use Rattle.ccsl_base.specs.declared.rows.Row.{Row}
use Rattle.ccsl_edge.specs.World.{State, Told}
use Rattle.ccsl_kernel.specs.Syntax.{System}
use Rattle.ccsl_kernel.specs.Lives.{Step}
use Rattle.ccsl_kernel.specs.Verdict.{completed_rows}
use Rattle.ccsl_kernel.specs.Runs.{IsAdmissible}
use Rattle.ccsl_items.specs.Laws.{IsNamedRun}
use Rattle.ccsl_refute.specs.declared.line.Line.{Line}
use Rattle.ccsl_bind.specs.Collected.{wanted_of}
use Rattle.ccsl_vcd.specs.declared.limits.Limits.{Limits}
use Rattle.ccsl_vcd.specs.Rows.{recorded}
use Rattle.ccsl_certify.specs.declared.answer.CertVerdict.TheVariants.{Yes}
use Rattle.ccsl_certify.specs.Certified.{Answers, IsCertified}

-- the completed trace is a run of so many steps, and no set is admissible after it
pub record IsDeadlocked (K : System) (rows : List Row) (steps : ℕ) : Type 0 where
  pub run : IsNamedRun K (completed_rows K rows)
  pub count : length (completed_rows K rows) ≡ steps
  pub ends : (s : Step) → IsAdmissible K (completed_rows K rows) s → ⊥

-- A YES IS A DEADLOCK: the trace that was read is one
abbrev pub YesIsDeadlock : System → Type 0
YesIsDeadlock K = (told : Told) (limits : Limits) (old new : State) (steps : ℕ)
    (certified : IsCertified told K limits old new (Yes steps)) → IsDeadlocked K certified.rows steps

-- and so is every trace on whose rows the answer is yes, whether or not a world was read
abbrev pub AnsweredYesIsDeadlock : System → Type 0
AnsweredYesIsDeadlock K = (limits : Limits) (trace bound : List ℕ) (lines : List Line) (steps : ℕ) →
    Answers K bound (recorded (wanted_of K) limits trace) lines (Yes steps) → IsDeadlocked K (recorded (wanted_of K) limits trace) steps
