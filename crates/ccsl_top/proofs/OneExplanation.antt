-- What `explain` answers is one, but for the lines of its certificate.
use Rattle.std.proofs.Common.{◌≡◌, ℕ, List, [], ◌∷◌, ◌++◌, length, Option, Some, None, refl, sym, ap, ap₂, ◌∙◌, subst}
use Rattle.ccsl_base.specs.declared.rows.Row.{Row}
use Rattle.ccsl_kernel.specs.Syntax.{System}
use Rattle.ccsl_kernel.specs.Verdict.{Verdict, Run, Violated, completed_rows}
use Rattle.ccsl_formula.specs.declared.scope.Scope.{Scope}
use Rattle.ccsl_formula.specs.Formula.{Formula}
use Rattle.ccsl_refute.specs.declared.line.Line.{Line}
use Rattle.ccsl_items.specs.Formulas.{item_formulas, scope_of}
use Rattle.ccsl_explain.specs.Explained.{AreLeast}
use Rattle.ccsl_explain.specs.Laws.{CoresAreOne, LeastSetsAreOne}
use Rattle.ccsl_vcd.specs.declared.fault.VcdFault.{VcdFault}
use Rattle.ccsl_vcd.specs.Reading.{reading}
use Rattle.ccsl_vcd.specs.Rows.{recorded}
use Rattle.ccsl_bind.specs.Collected.{wanted_of}
use Rattle.ccsl_report.specs.Texts.{explain_blocked_text}
use Rattle.ccsl_top.specs.Outcome.{Outcome, outcome}
use Rattle.ccsl_vcd.specs.declared.limits.TheConstants.{LIMITS}
use Rattle.ccsl_top.specs.Judge.{judged}
use Rattle.ccsl_top.specs.OneOutcome.{but_certificate}
use Rattle.ccsl_top.specs.Explain.{member_lines, blocked_outcome, IsRunExplained, possible, blocked, IsVerdictExplained, IsReadExplained, IsExplainOutcome}

module _ (cores : (scope : Scope) (formulas : List Formula) → CoresAreOne scope formulas)
    (least : (scope : Scope) (formulas : List Formula) → LeastSetsAreOne scope formulas) where
  sets-one : (scope : Scope) (formulas : List Formula) (core is : List ℕ) (a b : List (List ℕ)) →
      AreLeast scope formulas core is a → AreLeast scope formulas core is b → a ≡ b
  sets-one scope formulas core [] [] [] x y = refl
  sets-one scope formulas core [] [] (t ∷ b) x y = absurd y
  sets-one scope formulas core [] (s ∷ a) b x y = absurd x
  sets-one scope formulas core (i ∷ is) [] b x y = absurd x
  sets-one scope formulas core (i ∷ is) (s ∷ a) [] x y = absurd y
  sets-one scope formulas core (i ∷ is) (s ∷ a) (t ∷ b) x y =
      ap₂ (λ h r. h ∷ r) (least scope formulas core i s t x.0 y.0) (sets-one scope formulas core is a b x.1 y.1)

  module _ (K : System) (cert : List ℕ) where
    blocked-one : (steps : ℕ) (c d : List ℕ) (l m : List Line) (v w : List (List ℕ)) → c ≡ d → v ≡ w →
        but_certificate (blocked_outcome K cert steps c l v) ≡ but_certificate (blocked_outcome K cert steps d m w)
    blocked-one steps c d l m v w core sets = ap₂ (λ c v. outcome 0 (explain_blocked_text steps (length c) ++ member_lines K c v)) core sets

    run-one : (steps : ℕ) (formulas : List Formula) (o p : Outcome) → IsRunExplained K cert steps formulas o → IsRunExplained K cert steps formulas p →
        but_certificate o ≡ but_certificate p
    run-one steps formulas o p (possible s one is) (possible t other is') = ap but_certificate (is ∙ sym is')
    run-one steps formulas o p (possible s one is) (blocked core lines without why is') = absurd (why.blocks s one.solves)
    run-one steps formulas o p (blocked core lines without why is) (possible t other is') = absurd (why.blocks t other.solves)
    run-one steps formulas o p (blocked c l v why is) (blocked d m w why' is') =
        let scope : Scope = scope_of K in
        let core : c ≡ d = cores scope formulas c d why.is_core why'.is_core in
        let sets : v ≡ w = sets-one scope formulas d d v w (subst (λ (x : List ℕ). AreLeast scope formulas x x v) core why.least) why'.least in
        ap but_certificate is ∙ blocked-one steps c d l m v w core sets ∙ sym (ap but_certificate is')

    verdict-one : (rows : List Row) (v : Verdict) (o p : Outcome) → IsVerdictExplained K cert rows v o → IsVerdictExplained K cert rows v p →
        but_certificate o ≡ but_certificate p
    verdict-one rows (Violated step time item) o p a b = ap but_certificate (a ∙ sym b)
    verdict-one rows (Run steps) o p a b = run-one steps (item_formulas K (completed_rows K rows)) o p a b

    read-one : (trace : List ℕ) (fault : Option VcdFault) (o p : Outcome) → IsReadExplained K cert trace fault o → IsReadExplained K cert trace fault p →
        but_certificate o ≡ but_certificate p
    read-one trace (Some fault) o p a b = ap but_certificate (a ∙ sym b)
    read-one trace None o p a b = verdict-one (recorded (wanted_of K) LIMITS trace) (judged K trace) o p a b

    pub explain-one : (trace : List ℕ) (o p : Outcome) → IsExplainOutcome K cert trace o → IsExplainOutcome K cert trace p
        → but_certificate o ≡ but_certificate p
    explain-one trace o p a b = read-one trace (reading (wanted_of K) LIMITS trace).fault o p a b
