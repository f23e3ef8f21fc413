-- Commands that name a specification: what each answers on its system, and where the reading ends.
use Rattle.std.proofs.Common.{◌≡◌, ◌≢◌, ℕ, List, [], ◌∷◌, Option, Some, None, Ok, IsTrue, sym, ap, ◌∙◌, subst}
use Rattle.ccsl_edge.specs.declared.slot.Slot.{Slot}
use Rattle.ccsl_edge.specs.declared.slot.Slot.TheVariants.{Spec}
use Rattle.ccsl_edge.specs.declared.stop.Stop.{Stop}
use Rattle.ccsl_edge.specs.World.{State, Told, held}
use Rattle.ccsl_command.specs.declared.command.Command.{Command}
use Rattle.ccsl_command.specs.declared.command.Command.TheVariants as command
use Rattle.ccsl_command.specs.Opened.{Opened, files_of}
use Rattle.ccsl_kernel.specs.Syntax.{System}
use Rattle.ccsl_spec.specs.Specifications.{IsRefusedWith}
use Rattle.ccsl_top.specs.declared.reply.Reply.{Reply}
use Rattle.ccsl_top.specs.declared.reply.Status.TheVariants.{SpecRefused}
use Rattle.ccsl_top.specs.Outcome.{Outcome}
use Rattle.ccsl_top.specs.Check.{check_outcome}
use Rattle.ccsl_top.specs.Simulate.{named_policy, IsSimulated}
use Rattle.ccsl_top.specs.Judge.{judge_outcome}
use Rattle.ccsl_top.specs.Certify.{certify_outcome}
use Rattle.ccsl_top.specs.Explain.{IsExplainOutcome}
use Rattle.ccsl_top.specs.Converse.{session_outcome}
use Rattle.ccsl_top.specs.Program.{IsSpecOutcome, IsOutcomeOf}
use Rattle.ccsl_top.specs.Opening.{AreAllowed}
use Rattle.ccsl_top.specs.Changes.{Reads}
use Rattle.ccsl_top.specs.Reading.{only, IsStop}
use Rattle.ccsl_top.specs.Specified.{spec_of}
use Rattle.ccsl_top.specs.Answered.{AnswersTo, StopsAt}
use Rattle.ccsl_top.proofs.Behind.{with_spec, spec-refused, reading-stops}

abbrev behind_first : List Opened → List Opened
behind_first [] = []
behind_first (file ∷ files) = files

-- the files that are opened behind the specification
abbrev pub behind_of : Command → List Opened
behind_of c = behind_first (files_of c)

-- what a command answers on the system of its specification
abbrev pub IsAnswerOn : Command → (List ℕ → List ℕ) → List ℕ → System → Outcome → Type 0
IsAnswerOn (command.Check spec) content input K o = o ≡ check_outcome K
IsAnswerOn (command.Simulate spec policy seed steps trace cert) content input K o = IsSimulated K (named_policy policy) seed steps trace cert o
IsAnswerOn (command.Judge spec trace workers) content input K o = o ≡ judge_outcome K (content trace)
IsAnswerOn (command.Certify spec trace cert) content input K o = o ≡ certify_outcome K (content trace) (content cert)
IsAnswerOn (command.Explain spec trace cert) content input K o = IsExplainOutcome K cert (content trace) o
IsAnswerOn (command.Session spec policy seed) content input K o = o ≡ session_outcome K (named_policy policy) seed input
IsAnswerOn other content input K o = ⊥

pub some-same : (a b : List ℕ) → (let O : Option (List ℕ) = Some a in O) ≡ Some b → a ≡ b
some-same a b e = cc

pub some-none : {o : Option (List ℕ)} (b : List ℕ) → o ≡ Some b → o ≢ None
some-none {o} b e n = let clash : (let O : Option (List ℕ) = Some b in O) ≡ None = sym e ∙ n in absurd (cc)

none-some : {P : Type 0} (b : List ℕ) → (let O : Option (List ℕ) = None in O) ≡ Some b → P
none-some b e = absurd (cc)

-- the specification is the first file that is opened
pub opens-behind : (c : Command) (spec : List ℕ) → spec_of c ≡ Some spec → files_of c ≡ with_spec spec (behind_of c)
opens-behind (command.Check name) spec e = ap (λ n. with_spec n []) (some-same name spec e)
opens-behind (command.Simulate name policy seed steps trace cert) spec e =
    ap (λ n. with_spec n (behind_of (command.Simulate name policy seed steps trace cert))) (some-same name spec e)
opens-behind (command.Judge name trace workers) spec e = ap (λ n. with_spec n (behind_of (command.Judge name trace workers))) (some-same name spec e)
opens-behind (command.Certify name trace cert) spec e = ap (λ n. with_spec n (behind_of (command.Certify name trace cert))) (some-same name spec e)
opens-behind (command.Explain name trace cert) spec e = ap (λ n. with_spec n (behind_of (command.Explain name trace cert))) (some-same name spec e)
opens-behind (command.Session name policy seed) spec e = ap (λ n. with_spec n []) (some-same name spec e)
opens-behind (command.Trial clocks steps seed workers) spec e = none-some spec e
opens-behind (command.Periodic left right relation) spec e = none-some spec e

-- what is defined for a command is what it answers on the system, or the refusal of the specification
pub outcome-on : (c : Command) (spec : List ℕ) → spec_of c ≡ Some spec → (content : List ℕ → List ℕ) (input : List ℕ) (o : Outcome) →
    IsSpecOutcome (content spec) (IsAnswerOn c content input) o → IsOutcomeOf content input (Ok c) o
outcome-on (command.Check name) spec e content input o is = rw (some-same name spec e) is
outcome-on (command.Simulate name policy seed steps trace cert) spec e content input o is = rw (some-same name spec e) is
outcome-on (command.Judge name trace workers) spec e content input o is = rw (some-same name spec e) is
outcome-on (command.Certify name trace cert) spec e content input o is = rw (some-same name spec e) is
outcome-on (command.Explain name trace cert) spec e content input o is = rw (some-same name spec e) is
outcome-on (command.Session name policy seed) spec e content input o is = rw (some-same name spec e) is
outcome-on (command.Trial clocks steps seed workers) spec e content input o is = none-some spec e
outcome-on (command.Periodic left right relation) spec e content input o is = none-some spec e

-- the specification may be opened
pub spec-allowed : (allows : Slot → List ℕ → Type 0) (c : Command) (spec : List ℕ) → spec_of c ≡ Some spec → AreAllowed allows (files_of c) → allows Spec spec
spec-allowed allows c spec e allowed = (subst (AreAllowed allows) (opens-behind c spec e) allowed).0

module _ (told : Told) (c : Command) (spec : List ℕ) (named : spec_of c ≡ Some spec) (s t : State) where
  -- it was not read
  pub unread : (reason : Stop) → IsStop reason Spec s t → StopsAt told c reason s t
  unread reason stop = reading-stops told c spec (behind_of c) (opens-behind c spec named) (IsAnswerOn c) (outcome-on c spec named) s t reason stop

  -- it is refused
  pub refused : Reads (only Spec) s t → (reply : Reply) → reply.status ≡ SpecRefused →
      (IsTrue told.files → IsTrue told.left → IsRefusedWith (held s.files spec) reply.line.items) → AnswersTo told c reply s t
  refused reads reply status is = λ words means.
      spec-refused told words c means spec (behind_of c) (opens-behind c spec named) (IsAnswerOn c) (outcome-on c spec named) s t reads reply status is
