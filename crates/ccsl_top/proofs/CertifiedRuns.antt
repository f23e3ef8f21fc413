-- A certificate that `simulate` writes is one that `certify` accepts.
use Rattle.std.proofs.Common.{◌≡◌, ℕ, ◌<◌, ◌≤◌, List, Ok, All, length, true, sym, subst, arith}
use Rattle.ccsl_base.specs.declared.limits.TheConstants.{MAX_FILE_BYTES, MAX_STEPS}
use Rattle.ccsl_base.specs.Names.{are_distinct}
use Rattle.ccsl_base.specs.Name.{are_cert_names}
use Rattle.ccsl_formula.specs.declared.scope.Scope.{Scope}
use Rattle.ccsl_formula.specs.Formula.{Formula}
use Rattle.ccsl_kernel.specs.Syntax.{System}
use Rattle.ccsl_kernel.specs.Lives.{Step}
use Rattle.ccsl_kernel.specs.Accepted.{IsAccepted}
use Rattle.ccsl_items.specs.Formulas.{item_formulas, scope_of}
use Rattle.ccsl_policy.specs.declared.policies.Policy.{Policy}
use Rattle.ccsl_refute.specs.declared.line.Line.{Line}
use Rattle.ccsl_refute.specs.Below.{AreBelow}
use Rattle.ccsl_refute.specs.NumbersFit.{NumbersFit}
use Rattle.ccsl_refute.specs.Validity.{are_valid, is_certificate}
use Rattle.ccsl_refute.specs.Writing.{lines_text}
use Rattle.ccsl_refute.specs.LineLiterals.{literals}
use Rattle.ccsl_refute.specs.Reading as certificates
use Rattle.ccsl_certify.specs.declared.answer.CertVerdict.TheVariants.{Yes}
use Rattle.ccsl_vcd_write.specs.Text.{vcd_text}
use Rattle.ccsl_roundtrip.specs.RoundTrip.{SimulatedTracesAreRuns}
use Rattle.ccsl_report.specs.Texts.{cert_valid_text}
use Rattle.ccsl_top.specs.Outcome.{outcome}
use Rattle.ccsl_top.specs.Simulate.{run, IsCertificate, none, lines}
use Rattle.ccsl_top.specs.Certify.{certify_outcome}
use Rattle.ccsl_top.specs.Laws.{SimulationsCertify}
use Rattle.ccsl_top.proofs.Certified.{formulas-count, reads-back}
use Rattle.ccsl_top.proofs.Certifying.{NoBadLine, verdict-outcome}

module _ (none-bad : NoBadLine)
    (named : (scope : Scope) (formulas : List Formula) (lines : List Line) → are_valid scope formulas lines ≡ true
    → All (λ line. AreBelow scope.named (literals line)) lines)
    (back : (names : List (List ℕ)) (lines : List Line) → are_distinct names ≡ true → are_cert_names names ≡ true →
    All (λ line. AreBelow (length names) (literals line)) lines → All NumbersFit lines → certificates.reading names (lines_text names lines) ≡ Ok lines)
    (K : System) (ok : IsAccepted K) (distinct : are_distinct K.names ≡ true) (spelled : are_cert_names K.names ≡ true)
    (judged : SimulatedTracesAreRuns K) where
  module _ (p : Policy) (seed steps : ℕ) (few : steps ≤ MAX_STEPS) where
    abbrev T : List Step
    T = run K p seed steps

    lines-certify : (ls : List Line) → is_certificate (scope_of K) (item_formulas K (run K p seed steps)) ls ≡ true
        → length (lines_text K.names ls) ≤ MAX_FILE_BYTES →
        certify_outcome K (vcd_text K (run K p seed steps)) (lines_text K.names ls) ≡ outcome 0 (cert_valid_text (length (run K p seed steps)))
    lines-certify ls valid short =
        let j = judged p seed steps few in
        let fs = item_formulas K (run K p seed steps) in
        let after = subst (λ (X : List Step). is_certificate (scope_of K) (item_formulas K X) ls ≡ true) (sym j.steps_again) valid in
        sym (verdict-outcome none-bad K (vcd_text K (run K p seed steps)) (lines_text K.names ls) j.read short ls
        (reads-back none-bad named back K ok distinct spelled fs (formulas-count K (run K p seed steps)) ls valid short)
        (Yes (length (run K p seed steps))) (j.judged, after))

    certifies : (text : List ℕ) → length (run K p seed steps) < steps → IsCertificate K p seed steps text → length text ≤ MAX_FILE_BYTES →
        certify_outcome K (vcd_text K (run K p seed steps)) text ≡ outcome 0 (cert_valid_text (length (run K p seed steps)))
    certifies text early (none all is) short = absurd (omega (arith, all, early))
    certifies text early (lines ls less valid is) short =
        subst (λ bytes. certify_outcome K (vcd_text K (run K p seed steps)) bytes ≡ outcome 0 (cert_valid_text (length (run K p seed steps)))) (sym is)
        (lines-certify ls valid (subst (λ bytes. length bytes ≤ MAX_FILE_BYTES) is short))

  pub simulations-certify : SimulationsCertify K
  simulations-certify p seed steps text few early c short = certifies p seed steps few text early c short
