-- Words and files have one outcome.
use Rattle.std.proofs.Common.{◌≡◌, ℕ, List, Result, Ok, Err, sym, ap, ◌∙◌}
use Rattle.ccsl_command.specs.declared.command.Command.{Command}
use Rattle.ccsl_command.specs.declared.command.Command.TheVariants.{Check, Simulate, Judge, Certify, Trial, Periodic, Explain, Session}
use Rattle.ccsl_command.specs.declared.usage.Usage.{Usage}
use Rattle.ccsl_command.specs.Meaning.{meaning}
use Rattle.ccsl_kernel.specs.Syntax.{System}
use Rattle.ccsl_spec.specs.Laws.{OneSystem, OneRefusal, NotBoth}
use Rattle.ccsl_periodic.specs.Laws.{CanonicalWordsAreOne, PlainLengthsAreOne}
use Rattle.ccsl_formula.specs.declared.scope.Scope.{Scope}
use Rattle.ccsl_formula.specs.Formula.{Formula}
use Rattle.ccsl_explain.specs.Laws.{CoresAreOne, LeastSetsAreOne}
use Rattle.ccsl_top.proofs.OneAnswer.{periodic-one}
use Rattle.ccsl_top.proofs.OneExplanation.{explain-one}
use Rattle.ccsl_top.specs.Outcome.{Outcome, outcome}
use Rattle.ccsl_top.specs.Check.{check_outcome}
use Rattle.ccsl_top.specs.Simulate.{named_policy, IsSimulated}
use Rattle.ccsl_top.specs.Judge.{judge_outcome}
use Rattle.ccsl_top.specs.Certify.{certify_outcome}
use Rattle.ccsl_top.specs.Explain.{IsExplainOutcome}
use Rattle.ccsl_top.specs.Converse.{session_outcome}
use Rattle.ccsl_top.specs.Program.{IsSpecOutcome, refused, accepted, IsCommandOutcome, IsOutcomeOf}
use Rattle.ccsl_top.specs.OneOutcome.{but_certificate, OutcomesAreOne}

module _ (one_system : OneSystem) (one_refusal : OneRefusal) (not_both : NotBoth) (canonical : CanonicalWordsAreOne) (plain : PlainLengthsAreOne)
    (cores : (scope : Scope) (formulas : List Formula) → CoresAreOne scope formulas)
    (least : (scope : Scope) (formulas : List Formula) → LeastSetsAreOne scope formulas) where
  -- where the answers on one system are one but for a certificate
  spec-outcome : (text : List ℕ) (IsAnswer : System → Outcome → Type 0)
      → ((K : System) (o p : Outcome) → IsAnswer K o → IsAnswer K p → but_certificate o ≡ but_certificate p) →
      (o p : Outcome) → IsSpecOutcome text IsAnswer o → IsSpecOutcome text IsAnswer p → but_certificate o ≡ but_certificate p
  spec-outcome text IsAnswer one o p (refused line spec is) (refused line' spec' is') =
      ap but_certificate (is ∙ ap (outcome 3) (one_refusal text line line' spec spec') ∙ sym is')
  spec-outcome text IsAnswer one o p (refused line spec is) (accepted K spec' is') = absurd (not_both text line K spec' spec)
  spec-outcome text IsAnswer one o p (accepted K spec is) (refused line spec' is') = absurd (not_both text line K spec spec')
  spec-outcome text IsAnswer one o p (accepted K spec is) (accepted L spec' is') =
      one K o p is (rw (one_system text K L spec spec') is')

  answer-outcome : (answer : System → Outcome) (K : System) (o p : Outcome) → o ≡ answer K → p ≡ answer K → but_certificate o ≡ but_certificate p
  answer-outcome answer K o p a b = ap but_certificate (a ∙ sym b)

  command-outcome : (content : List ℕ → List ℕ) (input : List ℕ) (command : Command) (o p : Outcome) → IsCommandOutcome content input command o
      → IsCommandOutcome content input command p →
      but_certificate o ≡ but_certificate p
  command-outcome content input (Check spec) o p a b = spec-outcome (content spec) (λ K o. o ≡ check_outcome K) (answer-outcome check_outcome) o p a b
  command-outcome content input (Judge spec trace workers) o p a b =
      spec-outcome (content spec) (λ K o. o ≡ judge_outcome K (content trace)) (answer-outcome (λ K. judge_outcome K (content trace))) o p a b
  command-outcome content input (Simulate spec policy seed steps trace cert) o p a b =
      spec-outcome (content spec) (λ K o. IsSimulated K (named_policy policy) seed steps trace cert o)
      (λ K o p x y. ap but_certificate x.is ∙ sym (ap but_certificate y.is)) o p a b
  command-outcome content input (Certify spec trace cert) o p a b =
      spec-outcome (content spec) (λ K o. o ≡ certify_outcome K (content trace) (content cert))
      (answer-outcome (λ K. certify_outcome K (content trace) (content cert))) o p a b
  command-outcome content input (Trial clocks steps seed workers) o p a b = ap but_certificate (a ∙ sym b)
  command-outcome content input (Periodic left right relation) o p a b = ap but_certificate (periodic-one canonical plain left right relation o p a b)
  command-outcome content input (Explain spec trace cert) o p a b =
      spec-outcome (content spec) (λ K o. IsExplainOutcome K cert (content trace) o) (λ K o p x y. explain-one cores least K cert (content trace) o p x y) o p a
      b
  command-outcome content input (Session spec policy seed) o p a b =
      spec-outcome (content spec) (λ K o. o ≡ session_outcome K (named_policy policy) seed input)
      (answer-outcome (λ K. session_outcome K (named_policy policy) seed input)) o p a b

  meant-outcome : (content : List ℕ → List ℕ) (input : List ℕ) (meant : Result Command Usage) (o p : Outcome) → IsOutcomeOf content input meant o
      → IsOutcomeOf content input meant p →
      but_certificate o ≡ but_certificate p
  meant-outcome content input (Err fault) o p a b = ap but_certificate (a ∙ sym b)
  meant-outcome content input (Ok command) o p a b = command-outcome content input command o p a b

  pub outcomes-are-one : OutcomesAreOne
  outcomes-are-one words content input o p a b = meant-outcome content input (meaning words) o p a b
