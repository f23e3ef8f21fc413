-- What the outcomes of one command are worth to another, and that there is one for all words, files and input.
use Rattle.std.specs.Prelude.{◌≡◌, ℕ, ◌<◌, ◌≤◌, List, [], ◌∷◌, length}
use Rattle.ccsl_base.specs.declared.limits.TheConstants.{MAX_FILE_BYTES, MAX_STEPS}
use Rattle.ccsl_kernel.specs.Syntax.{System}
use Rattle.ccsl_policy.specs.declared.policies.Policy.{Policy}
use Rattle.ccsl_vcd.specs.Rows.{recorded}
use Rattle.ccsl_bind.specs.Collected.{wanted_of}
use Rattle.ccsl_vcd_write.specs.Text.{vcd_text}
use Rattle.ccsl_certify.specs.Laws.{IsDeadlocked}
use Rattle.ccsl_report.specs.Texts.{cert_valid_text}
use Rattle.ccsl_top.specs.Outcome.{Output, Outcome, outcome}
use Rattle.ccsl_vcd.specs.declared.limits.TheConstants.{LIMITS}
use Rattle.ccsl_top.specs.Simulate.{run, IsCertificate}
use Rattle.ccsl_top.specs.Certify.{certify_outcome}
use Rattle.ccsl_top.specs.Explain.{IsExplainOutcome}
use Rattle.ccsl_top.specs.Program.{IsOutcome}

-- A CERTIFICATE THAT EXPLAINS IS VALID: `certify` on the same trace and what is written of it answers so, where it is not too long
abbrev pub ExplanationsCertify : System → Type 0
ExplanationsCertify K = (name trace : List ℕ) (o : Outcome) (file : Output) → IsExplainOutcome K name trace o → o.outputs ≡ file ∷ [] →
    length file.content ≤ MAX_FILE_BYTES → (steps : ℕ) × (certify_outcome K trace file.content ≡ outcome 0 (cert_valid_text steps))

-- A CERTIFICATE OF A SIMULATION THAT ENDS EARLY IS VALID: `certify` on the trace and the certificate that are written answers so, with
-- the number of steps of the run, where the certificate is not too long
abbrev pub SimulationsCertify : System → Type 0
SimulationsCertify K = (policy : Policy) (seed steps : ℕ) (text : List ℕ) → steps ≤ MAX_STEPS → length (run K policy seed steps) < steps →
    IsCertificate K policy seed steps text → length text ≤ MAX_FILE_BYTES →
    certify_outcome K (vcd_text K (run K policy seed steps)) text ≡ outcome 0 (cert_valid_text (length (run K policy seed steps)))

-- `certify` said yes after so many steps: the trace is a run of so many steps, after which no set is admissible
pub record IsCertifiedEnd (K : System) (trace cert : List ℕ) (steps : ℕ) : Type 0 where
  pub answer : certify_outcome K trace cert ≡ outcome 0 (cert_valid_text steps)
  pub deadlocked : IsDeadlocked K (recorded (wanted_of K) LIMITS trace) steps

-- A YES OF `certify` IS A DEADLOCK
abbrev pub CertifiedRunsEnd : System → Type 0
CertifiedRunsEnd K = (trace cert : List ℕ) → (certify_outcome K trace cert).status ≡ 0 → (steps : ℕ) × IsCertifiedEnd K trace cert steps

-- THE OUTCOME EXISTS
abbrev pub OutcomesExist : Type 0
OutcomesExist = (words : List (List ℕ)) (content : List ℕ → List ℕ) (input : List ℕ) → (o : Outcome) × IsOutcome words content input o
