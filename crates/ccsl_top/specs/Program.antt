-- THE OUTCOME OF THE PROGRAM: of its words, of the content of the files by their names, and of the bytes that are left of standard
-- input, which `session` alone reads. A file that is not held is an empty one.
use Rattle.std.specs.Prelude.{◌≡◌, ℕ, List, Result, Ok, Err}
use Rattle.ccsl_command.specs.declared.command.Command.{Command}
use Rattle.ccsl_command.specs.declared.command.Command.TheVariants as command
use Rattle.ccsl_command.specs.declared.usage.Usage.{Usage}
use Rattle.ccsl_command.specs.Meaning.{meaning}
use Rattle.ccsl_kernel.specs.Syntax.{System}
use Rattle.ccsl_spec.specs.Specifications.{IsSystemOf, IsRefusedWith}
use Rattle.ccsl_report.specs.Texts.{usage_text}
use Rattle.ccsl_top.specs.Outcome.{Outcome, outcome}
use Rattle.ccsl_top.specs.Check.{check_outcome}
use Rattle.ccsl_top.specs.Simulate.{named_policy, IsSimulated}
use Rattle.ccsl_top.specs.Judge.{judge_outcome}
use Rattle.ccsl_top.specs.Certify.{certify_outcome}
use Rattle.ccsl_top.specs.Trial.{trial_outcome}
use Rattle.ccsl_top.specs.Periodic.{IsPeriodicOutcome}
use Rattle.ccsl_top.specs.Explain.{IsExplainOutcome}
use Rattle.ccsl_top.specs.Converse.{session_outcome}

-- on the text of a specification: its refusal, or what the command answers on its system
pub data IsSpecOutcome (text : List ℕ) (IsAnswer : System → Outcome → Type 0) (o : Outcome) : Type 0 where
  refused : (line : List ℕ) (spec : IsRefusedWith text line) (is : o ≡ outcome 3 line) → IsSpecOutcome text IsAnswer o
  accepted : (K : System) (spec : IsSystemOf text K) (is : IsAnswer K o) → IsSpecOutcome text IsAnswer o

-- the words are refused
abbrev pub usage_outcome : Usage → Outcome
usage_outcome fault = outcome 2 (usage_text fault)

abbrev pub IsCommandOutcome : (List ℕ → List ℕ) → List ℕ → Command → Outcome → Type 0
IsCommandOutcome content input (command.Check spec) o = IsSpecOutcome (content spec) (λ K o. o ≡ check_outcome K) o
IsCommandOutcome content input (command.Simulate spec policy seed steps trace cert) o =
    IsSpecOutcome (content spec) (λ K o. IsSimulated K (named_policy policy) seed steps trace cert o) o
IsCommandOutcome content input (command.Judge spec trace workers) o = IsSpecOutcome (content spec) (λ K o. o ≡ judge_outcome K (content trace)) o
IsCommandOutcome content input (command.Certify spec trace cert) o =
    IsSpecOutcome (content spec) (λ K o. o ≡ certify_outcome K (content trace) (content cert)) o
IsCommandOutcome content input (command.Trial clocks steps seed workers) o = o ≡ trial_outcome clocks steps seed
IsCommandOutcome content input (command.Periodic left right relation) o = IsPeriodicOutcome left right relation o
IsCommandOutcome content input (command.Explain spec trace cert) o =
    IsSpecOutcome (content spec) (λ K o. IsExplainOutcome K cert (content trace) o) o
IsCommandOutcome content input (command.Session spec policy seed) o =
    IsSpecOutcome (content spec) (λ K o. o ≡ session_outcome K (named_policy policy) seed input) o

abbrev pub IsOutcomeOf : (List ℕ → List ℕ) → List ℕ → Result Command Usage → Outcome → Type 0
IsOutcomeOf content input (Err fault) o = o ≡ usage_outcome fault
IsOutcomeOf content input (Ok command) o = IsCommandOutcome content input command o

abbrev pub IsOutcome : List (List ℕ) → (List ℕ → List ℕ) → List ℕ → Outcome → Type 0
IsOutcome words content input o = IsOutcomeOf content input (meaning words) o
