-- WHAT `simulate` ANSWERS on an accepted specification: it writes the one run of system, policy, seed and number of steps as a trace.
-- Where the run ends early the status is 8, and it writes a certificate that no step is left. Which valid lines these are is the one
-- part of an outcome that words and files do not decide.
use Rattle.std.specs.Prelude.{◌≡◌, ℕ, ◌<◌, List, [], ◌∷◌, length, true, nat_lt, if◌then◌else◌}
use Rattle.ccsl_edge.specs.declared.slot.Slot.TheVariants.{TraceOut, CertOut}
use Rattle.ccsl_command.specs.declared.table.PolicyName.{PolicyName}
use Rattle.ccsl_command.specs.declared.table.PolicyName.TheVariants as name
use Rattle.ccsl_policy.specs.declared.policies.Policy.{Policy}
use Rattle.ccsl_policy.specs.declared.policies.Policy.TheVariants as policy
use Rattle.ccsl_kernel.specs.Syntax.{System}
use Rattle.ccsl_kernel.specs.Lives.{Step}
use Rattle.ccsl_refute.specs.declared.line.Line.{Line}
use Rattle.ccsl_refute.specs.Validity.{is_certificate}
use Rattle.ccsl_refute.specs.Writing.{lines_text}
use Rattle.ccsl_items.specs.Formulas.{item_formulas, scope_of}
use Rattle.ccsl_vcd_write.specs.Text.{vcd_text}
use Rattle.ccsl_simulate.specs.Simulation.{simulation}
use Rattle.ccsl_report.specs.Texts.{simulated_text, deadlocked_text}
use Rattle.ccsl_top.specs.Outcome.{Output, Outcome}

-- the policy of a name
abbrev pub named_policy : PolicyName → Policy
named_policy name.Min = policy.Min
named_policy name.Max = policy.Max
named_policy name.Seeded = policy.Seeded

module _ (K : System) (p : Policy) (seed steps : ℕ) where
  abbrev pub run : List Step
  run = simulation K p seed steps

  -- the text of the certificate: none behind a run with all its steps, else the lines of one that no step is left after the run
  pub data IsCertificate (text : List ℕ) : Type 0 where
    none : (all : length run ≡ steps) (is : text ≡ []) → IsCertificate text
    lines : (lines : List Line) (early : length run < steps)
        (valid : is_certificate (scope_of K) (item_formulas K run) lines ≡ true) (is : text ≡ lines_text K.names lines) → IsCertificate text

  -- the files that are written under two names
  module _ (trace cert : List ℕ) where
    abbrev pub trace_output : Output
    trace_output = record { slot = TraceOut; name = trace; content = vcd_text K run }

    abbrev pub cert_output : List ℕ → Output
    cert_output text = record { slot = CertOut; name = cert; content = text }

    pub data IsOutput (o : Output) : Type 0 where
      of_trace : (is : o ≡ trace_output) → IsOutput o
      of_certificate : (text : List ℕ) (valid : IsCertificate text) (is : o ≡ cert_output text) → IsOutput o

    abbrev pub simulate_outcome : List ℕ → Outcome
    simulate_outcome text = record {
      status = if nat_lt (length run) steps then 8 else 0;
      report = if nat_lt (length run) steps then deadlocked_text (length run) else simulated_text (length run);
      outputs = trace_output ∷ cert_output text ∷ [];
    }

    pub record IsSimulated (o : Outcome) : Type 0 where
      pub text : List ℕ
      pub valid : IsCertificate text
      pub is : o ≡ simulate_outcome text
