-- WHAT SIMULATING OVER A WORLD ANSWERS AND WRITES. Where the world tells the bytes written, they are the trace's and the certificate's.
use Rattle.std.specs.Prelude.{◌≡◌, ◌⊎◌, ℕ, ◌<◌, List, length, take, true}
use Rattle.ccsl_edge.specs.declared.slot.Slot.TheVariants.{TraceOut, CertOut}
use Rattle.ccsl_edge.specs.World.{State, Told}
use Rattle.ccsl_edge.specs.Calls.{Adds, AddsFront}
use Rattle.ccsl_refute.specs.declared.line.Line.{Line}
use Rattle.ccsl_refute.specs.Validity.{is_certificate}
use Rattle.ccsl_refute.specs.Writing.{lines_text}
use Rattle.ccsl_kernel.specs.Syntax.{System}
use Rattle.ccsl_vcd_write.specs.Text.{vcd_text}
use Rattle.ccsl_items.specs.Formulas.{item_formulas, scope_of}
use Rattle.ccsl_policy.specs.declared.policies.Policy.{Policy}
use Rattle.ccsl_simulate.specs.declared.answer.Done.{Done}
use Rattle.ccsl_simulate.specs.declared.answer.Done.TheVariants.{Full, Deadlock}
use Rattle.ccsl_edge.specs.declared.stop.Stop.{Stop}
use Rattle.ccsl_edge.specs.declared.stop.Stop.TheVariants.{Fault, Memory}
use Rattle.ccsl_simulate.specs.Simulation.{simulation}

module _ (told : Told) (K : System) (policy : Policy) (seed steps : ℕ) (old new : State) where
  -- the text of the run's trace
  abbrev pub trace_text : List ℕ
  trace_text = vcd_text K (simulation K policy seed steps)

  -- the run has all the steps, and its trace was written; nothing else has changed
  pub record IsFull : Type 0 where
    pub count : length (simulation K policy seed steps) ≡ steps
    pub trace : Adds told TraceOut trace_text old new

  -- the run has `at` steps, fewer than wanted, and the lines show that no set goes on; its trace was written
  pub record IsBlocked (at : ℕ) (lines : List Line) (written : State) : Type 0 where
    pub count : length (simulation K policy seed steps) ≡ at
    pub short : at < steps
    pub certificate : is_certificate (scope_of K) (item_formulas K (simulation K policy seed steps)) lines ≡ true
    pub trace : Adds told TraceOut trace_text old written

  -- such lines were written, and nothing else has changed
  pub record IsDeadlock (at : ℕ) : Type 0 where
    pub lines : List Line
    pub written : State
    pub blocked : IsBlocked at lines written
    pub text : Adds told CertOut (lines_text K.names lines) written new

  abbrev pub IsDone : Done → Type 0
  IsDone Full = IsFull
  IsDone (Deadlock at) = IsDeadlock at

  -- a write of such lines failed
  pub record FailsAtCertificate : Type 0 where
    pub at : ℕ
    pub lines : List Line
    pub written : State
    pub blocked : IsBlocked at lines written
    pub text : AddsFront told CertOut (lines_text K.names lines) written new

  -- a front of the trace was written
  pub record IsCutShort : Type 0 where
    pub count : ℕ
    pub trace : Adds told TraceOut (take count trace_text) old new

  -- A fault is a write that failed, of the trace, or behind it of the certificate. Memory is wanted behind a front of the trace.
  abbrev pub IsUndone : Stop → Type 0
  IsUndone Fault = AddsFront told TraceOut trace_text old new ⊎ FailsAtCertificate
  IsUndone Memory = IsCutShort
