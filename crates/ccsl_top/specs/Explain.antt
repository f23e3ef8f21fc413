-- WHAT `explain` ANSWERS on an accepted specification and the bytes of a trace: that a step is possible after it; or which items block
-- every step, with a certificate that cites no other item, and for each of them the least step that would be possible without it. Which
-- valid lines these are is left open.
use Rattle.std.specs.Prelude.{◌≡◌, ℕ, List, [], ◌∷◌, ◌++◌, Option, Some, None, length, codes}
use Rattle.ccsl_base.specs.declared.rows.Row.{Row}
use Rattle.ccsl_edge.specs.declared.slot.Slot.TheVariants.{CertOut}
use Rattle.ccsl_kernel.specs.Syntax.{System}
use Rattle.ccsl_kernel.specs.Verdict.{Verdict, Run, Violated, completed_rows}
use Rattle.ccsl_refute.specs.declared.line.Line.{Line}
use Rattle.ccsl_refute.specs.Writing.{lines_text}
use Rattle.ccsl_formula.specs.Formula.{Formula}
use Rattle.ccsl_items.specs.Formulas.{item_formulas, scope_of}
use Rattle.ccsl_explain.specs.Explained.{IsPossible, IsExplained}
use Rattle.ccsl_vcd.specs.declared.fault.VcdFault.{VcdFault}
use Rattle.ccsl_vcd.specs.Reading.{reading}
use Rattle.ccsl_vcd.specs.Rows.{recorded}
use Rattle.ccsl_bind.specs.Collected.{wanted_of}
use Rattle.ccsl_report.specs.Texts.{trace_text, broken_text, explain_open_text, explain_blocked_text, explain_member_text}
use Rattle.ccsl_top.specs.Outcome.{Output, Outcome, outcome}
use Rattle.ccsl_vcd.specs.declared.limits.TheConstants.{LIMITS}
use Rattle.ccsl_top.specs.Judge.{judged}

-- a line for each member of a core: its item, and the clocks of its set
abbrev pub member_lines : System → List ℕ → List (List ℕ) → List ℕ
member_lines K [] sets = []
member_lines K (i ∷ is) [] = []
member_lines K (i ∷ is) (s ∷ sets) = explain_member_text i s K ++ member_lines K is sets

module _ (K : System) (cert : List ℕ) where
  -- the certificate that is written under a name
  abbrev pub cert_output : List Line → Output
  cert_output lines = record { slot = CertOut; name = cert; content = lines_text K.names lines }

  abbrev pub blocked_outcome : ℕ → List ℕ → List Line → List (List ℕ) → Outcome
  blocked_outcome steps core lines without = record {
    status = 0;
    report = explain_blocked_text steps (length core) ++ member_lines K core without;
    outputs = cert_output lines ∷ [];
  }

  -- the trace is a run of so many steps, behind which the items have these formulas
  pub data IsRunExplained (steps : ℕ) (formulas : List Formula) (o : Outcome) : Type 0 where
    possible : (step : List ℕ) (one : IsPossible (scope_of K) formulas step) (is : o ≡ outcome 1 (explain_open_text steps)) →
        IsRunExplained steps formulas o
    blocked : (core : List ℕ) (lines : List Line) (without : List (List ℕ)) (why : IsExplained (scope_of K) formulas core lines without)
        (is : o ≡ blocked_outcome steps core lines without) → IsRunExplained steps formulas o

  -- the trace reads: whether it is a run
  abbrev pub IsVerdictExplained : List Row → Verdict → Outcome → Type 0
  IsVerdictExplained rows (Violated step time item) o = o ≡ outcome 1 (broken_text (codes "explain: ") step time item K)
  IsVerdictExplained rows (Run steps) o = IsRunExplained steps (item_formulas K (completed_rows K rows)) o

  -- whether the trace reads
  abbrev pub IsReadExplained : List ℕ → Option VcdFault → Outcome → Type 0
  IsReadExplained trace (Some fault) o = o ≡ outcome 4 (trace_text fault K)
  IsReadExplained trace None o = IsVerdictExplained (recorded (wanted_of K) LIMITS trace) (judged K trace) o

  abbrev pub IsExplainOutcome : List ℕ → Outcome → Type 0
  IsExplainOutcome trace o = IsReadExplained trace (reading (wanted_of K) LIMITS trace).fault o
