-- A yes of `certify` is a deadlock.
use Rattle.std.proofs.Common.{◌≡◌, ℕ, List, Bool, true, false, cond, length, Option, Some, None, Result, Ok, Err, nat_lt, refl}
use Rattle.ccsl_base.specs.declared.limits.TheConstants.{MAX_FILE_BYTES}
use Rattle.ccsl_base.specs.declared.rows.Row.{Row}
use Rattle.ccsl_formula.specs.declared.scope.Scope.{Scope}
use Rattle.ccsl_formula.specs.Formula.{Formula}
use Rattle.ccsl_kernel.specs.Syntax.{System}
use Rattle.ccsl_kernel.specs.Verdict.{Verdict, Run, Violated}
use Rattle.ccsl_refute.specs.declared.line.Line.{Line}
use Rattle.ccsl_refute.specs.declared.fault.CertFault.{CertFault}
use Rattle.ccsl_refute.specs.Validity.{is_certificate, first_bad_line}
use Rattle.ccsl_refute.specs.Reading as certificates
use Rattle.ccsl_certify.specs.Laws.{AnsweredYesIsDeadlock}
use Rattle.ccsl_vcd.specs.declared.fault.VcdFault.{VcdFault}
use Rattle.ccsl_vcd.specs.Reading.{reading}
use Rattle.ccsl_vcd.specs.Rows.{recorded}
use Rattle.ccsl_bind.specs.Collected.{wanted_of}
use Rattle.ccsl_items.specs.Formulas.{item_formulas, scope_of}
use Rattle.ccsl_kernel.specs.Verdict as kernel
use Rattle.ccsl_report.specs.Texts.{cert_too_long_text}
use Rattle.ccsl_top.specs.Outcome.{Outcome, outcome}
use Rattle.ccsl_vcd.specs.declared.limits.TheConstants.{LIMITS}
use Rattle.ccsl_top.specs.Judge.{clocks_in, judged, behind_fault}
use Rattle.ccsl_top.specs.Certify.{bad_line, lines_outcome, rows_outcome, text_outcome, cert_outcome, certify_outcome}
use Rattle.ccsl_top.specs.Laws.{IsCertifiedEnd, CertifiedRunsEnd}

module _ (certificate : (scope : Scope) (formulas : List Formula) (lines : List Line) → first_bad_line scope formulas lines ≡ None
    → is_certificate scope formulas lines ≡ true)
    (K : System) (deadlock : AnsweredYesIsDeadlock K) where
  module _ (trace cert : List ℕ) where
    abbrev rows : List Row
    rows = recorded (wanted_of K) LIMITS trace

    abbrev IsEnd : Outcome → Type 0
    IsEnd o = certify_outcome K trace cert ≡ o → o.status ≡ 0 → (steps : ℕ) × IsCertifiedEnd K trace cert steps

    -- each case in which the status is 0, as the outcome is
    of-line : (lines : List Line) (steps : ℕ) → judged K trace ≡ Run steps → (bad : Option ℕ) → bad_line K (recorded (wanted_of K) LIMITS trace) lines ≡ bad
        → IsEnd (lines_outcome steps bad)
    of-line lines steps v (Some j) b is done = absurd (cc)
    of-line lines steps v None b is done = (
      steps,
      record {
        answer = is;
        deadlocked = deadlock LIMITS trace (clocks_in K trace) lines steps
            (v, certificate (scope_of K) (item_formulas K (kernel.completed_rows K (recorded (wanted_of K) LIMITS trace))) lines b);
      },
    )

    of-verdict : (lines : List Line) (v : Verdict) → judged K trace ≡ v → IsEnd (rows_outcome K (recorded (wanted_of K) LIMITS trace) lines v)
    of-verdict lines (Violated step time item) e is done = absurd (cc)
    of-verdict lines (Run steps) e is done = of-line lines steps e (bad_line K (recorded (wanted_of K) LIMITS trace) lines) refl is done

    of-text : (read : Result (List Line) CertFault) → IsEnd (text_outcome K trace read)
    of-text (Err fault) is done = absurd (cc)
    of-text (Ok lines) is done = of-verdict lines (judged K trace) refl is done

    of-length : (long : Bool) → IsEnd (cond long (outcome 4 cert_too_long_text) (text_outcome K trace (certificates.reading K.names cert)))
    of-length true is done = absurd (cc)
    of-length false is done = of-text (certificates.reading K.names cert) is done

    of-fault : (fault : Option VcdFault) → IsEnd (behind_fault K fault (cert_outcome K trace cert))
    of-fault (Some fault) is done = absurd (cc)
    of-fault None is done = of-length (nat_lt MAX_FILE_BYTES (length cert)) is done

  pub certified-runs-end : CertifiedRunsEnd K
  certified-runs-end trace cert done = of-fault trace cert (reading (wanted_of K) LIMITS trace).fault refl done
