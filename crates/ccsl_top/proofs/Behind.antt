-- Commands that read a specification first: its refusal, and what is answered behind it.
use Rattle.std.proofs.Common.{◌≡◌, ◌≢◌, ℕ, List, ◌∷◌, Bool, true, false, ◌||◌, Contains, Result, Ok, IsTrue, ⊎_elim, refl, sym, ap, ◌∙◌, subst, arith}
use Rattle.std.proofs.lemmas.Bool.{or_left, both_ways}
use Rattle.ccsl_edge.specs.declared.slot.Slot.{Slot}
use Rattle.ccsl_edge.specs.declared.slot.Slot.TheVariants.{Spec, Trace}
use Rattle.ccsl_edge.specs.World.{State, Told, held, file_at}
use Rattle.ccsl_command.specs.declared.command.Command.{Command}
use Rattle.ccsl_command.specs.declared.usage.Usage.{Usage}
use Rattle.ccsl_command.specs.declared.command.Command.TheVariants as command
use Rattle.ccsl_command.specs.Meaning.{meaning}
use Rattle.ccsl_command.specs.Opened.{Opened, files_meant, files_opened, files_of}
use Rattle.ccsl_kernel.specs.Syntax.{System}
use Rattle.ccsl_spec.specs.Specifications.{IsSystemOf, IsRefusedWith}
use Rattle.ccsl_edge.specs.declared.stop.Stop.{Stop}
use Rattle.ccsl_edge.specs.declared.stop.Stop.TheVariants.{Fault, Memory}
use Rattle.ccsl_top.specs.declared.reply.Reply.{Reply}
use Rattle.ccsl_top.specs.declared.reply.Status.TheVariants.{SpecRefused}
use Rattle.ccsl_top.specs.Outcome.{Outcome, outcome}
use Rattle.ccsl_top.specs.Program.{IsSpecOutcome, refused, accepted, IsOutcome, IsOutcomeOf}
use Rattle.ccsl_top.specs.Statuses.{answers_of}
use Rattle.ccsl_top.specs.Opening.{opens, is_slot, is_output, may_change}
use Rattle.ccsl_top.specs.Effects.{RoseAt}
use Rattle.ccsl_top.specs.Changes.{Uses, Reads}
use Rattle.ccsl_top.specs.Reading.{only, Breaks, IsStop}
use Rattle.ccsl_top.specs.Headline.{IsTold, input_of, by_spec, by_file, LeavesTrace, unopened, kept, untouched}
use Rattle.ccsl_top.specs.Answered.{code_of, plain_reply, AreClosed, Leaves, Answered, Faulted, Starved, IsUnanswered, StopsAt}
use Rattle.ccsl_top.proofs.Slots.{is_slot-self, is_slot-same, is_slot-other, output-differs}
use Rattle.ccsl_top.proofs.Effects.{uses-changed, uses-stay, uses-then}
use Rattle.ccsl_top.proofs.Reaching.{opened-used, reach-read, reach-spec, three-known}

-- a specification of a name, and what stands in the list of opened files behind it
abbrev pub with_spec : List ℕ → List Opened → List Opened
with_spec spec behind = record { slot = Spec; name = spec } ∷ behind

-- the words mean a command that opens a specification and these files behind it, and answers so on its system
module _ (told : Told) (words : List (List ℕ)) (c : Command) (means : meaning words ≡ Ok c)
    (spec : List ℕ) (behind : List Opened) (opens_files : files_of c ≡ with_spec spec behind)
    (IsAnswer : (List ℕ → List ℕ) → List ℕ → System → Outcome → Type 0)
    (as_outcome : (content : List ℕ → List ℕ) (input : List ℕ) (o : Outcome) → IsSpecOutcome (content spec) (IsAnswer content input) o
    → IsOutcomeOf content input (Ok c) o) where
  opened-files : files_opened words ≡ with_spec spec behind
  opened-files = ap files_meant means ∙ opens_files

  opened-slot : (slot : Slot) → (is_slot Spec slot || opens behind slot) ≡ true → opens (files_opened words) slot ≡ true
  opened-slot slot e = ap (λ fs. opens fs slot) opened-files ∙ e

  spec-opened : opens (files_opened words) Spec ≡ true
  spec-opened = opened-slot Spec (or_left (is_slot Spec Spec) (opens behind Spec) (is_slot-self Spec))

  -- what is told to these words is told
  pub behind-told : {P : Type 0} → (IsTrue told.files → IsTrue told.left → P) → IsTold told words → P
  behind-told p t = let both = t spec-opened in p both.0 both.1

  -- no output slot is opened
  pub closed-none : ((slot : Slot) → is_output slot ≡ true → opens behind slot ≡ false) → (status : ℕ) (u : State) → AreClosed words status u
  closed-none none status u _ slot out opened =
      let unspec : is_slot Spec slot ≡ false = is_slot-other Spec slot (output-differs Spec slot refl out) in
      absurd (both_ways (opens (files_opened words) slot) (ap (λ fs. opens fs slot) opened-files ∙ ap (λ b. b || opens behind slot) unspec ∙ none slot out)
      opened)

  pub among-answers : (status : ℕ) → Contains (answers_of (Ok c)) status → Contains (answers_of (meaning words)) status
  among-answers status known = subst (λ m. Contains (answers_of m) status) (sym means) known

  pub is-outcome : (content : List ℕ → List ℕ) (input : List ℕ) (o : Outcome) → IsSpecOutcome (content spec) (IsAnswer content input) o
      → IsOutcome words content input o
  is-outcome content input o is = subst (λ m. IsOutcomeOf content input m o) (sym means) (as_outcome content input o is)

  -- what reading some of these slots leaves
  leaves-reads : (used : Slot → Bool) → ((slot : Slot) → used slot ≡ true → (is_slot Spec slot || opens behind slot) ≡ true) →
      (s u : State) → Uses used s u → Leaves told words used s u
  leaves-reads used within s u uses = record {
    opened = λ slot e. opened-slot slot (within slot e);
    stays = uses-stay told (files_opened words) used s u uses;
    whole = λ _ _ name. kept (ap (λ fs. file_at fs name) uses.files);
    fronts = λ _ _ slot out. untouched (ap (λ x. x.written) (uses-changed used s u uses slot));
  }

  spec-within : (slot : Slot) → only Spec slot ≡ true → (is_slot Spec slot || opens behind slot) ≡ true
  spec-within slot e = or_left (is_slot Spec slot) (opens behind slot) e

  module _ (s t : State) where
    -- a reading that did not end
    pub spec-faulted : Breaks Spec s t → Faulted told words s t
    spec-faulted b = record {
      used = only Spec;
      leaves = leaves-reads (only Spec) spec-within s t b.uses;
      cause = by_spec (opened-slot Spec (spec-within Spec (is_slot-self Spec))) b.rose;
    }

    spec-starved : Reads (only Spec) s t → Starved told words s t
    spec-starved reads = record {
      used = only Spec;
      leaves = leaves-reads (only Spec) spec-within s t reads.uses;
      counts = reads.counts;
      early = λ _ _ _ _ _. unopened (reads.uses.others Trace refl);
    }

    spec-stopped : (stop : Stop) → IsStop stop Spec s t → IsUnanswered stop told words s t
    spec-stopped Fault b = spec-faulted b
    spec-stopped Memory reads = spec-starved reads

    module _ (reads : Reads (only Spec) s t) where
      -- a reply that stands for what is answered on the specification alone
      spec-replied : (reply : Reply) → Contains (answers_of (Ok c)) (code_of reply.status) → AreClosed words (code_of reply.status) t →
          (IsTrue told.files → IsTrue told.left → IsSpecOutcome (held s.files spec) (IsAnswer (held s.files) (input_of s)) (plain_reply reply))
          → Answered told words reply s t
      spec-replied reply known closed is = record {
        used = only Spec;
        leaves = leaves-reads (only Spec) spec-within s t reads.uses;
        counts = reads.counts;
        known = among-answers (code_of reply.status) known;
        within = λ slot e.
            subst (λ x. may_change words (code_of reply.status) x ≡ true) (is_slot-same Spec slot e) (reach-spec words (code_of reply.status) spec-opened);
        closed = closed;
        stands = behind-told (λ f l. record {
          outcome = plain_reply reply;
          status_is = refl;
          report_is = refl;
          defined = record { is = is-outcome (held s.files) (input_of s) (plain_reply reply) (is f l); files = λ _. record {} };
        });
      }

      pub spec-refused : (line : Reply) → line.status ≡ SpecRefused →
          (IsTrue told.files → IsTrue told.left → IsRefusedWith (held s.files spec) line.line.items) → Answered told words line s t
      spec-refused reply status is = spec-replied reply
          (rw status (three-known c (record { slot = Spec; name = spec }) behind opens_files))
          (rw status (λ e _ _ _. absurd (⊎_elim (λ (n : 3 ≡ 0). omega (arith, n)) (λ (n : 3 ≡ 8). omega (arith, n)) e)))
          (λ f l. refused reply.line.items (is f l) (ap (λ x. outcome (code_of x) reply.line.items) status))

      module _ (K : System) (system : IsTrue told.files → IsTrue told.left → IsSystemOf (held s.files spec) K) where
        -- where nothing is written
        pub spec-answered : ((slot : Slot) → is_output slot ≡ true → opens behind slot ≡ false) → (reply : Reply)
            → Contains (answers_of (Ok c)) (code_of reply.status) →
            IsAnswer (held s.files) (input_of s) K (plain_reply reply) → Answered told words reply s t
        spec-answered none reply known is = spec-replied reply known (closed-none none (code_of reply.status) t) (λ f l. accepted K (system f l) is)

        -- more slots are read behind it
        module _ (more : Slot → Bool) (within : (slot : Slot) → more slot ≡ true → opens behind slot ≡ true)
            (inputs : (slot : Slot) → more slot ≡ true → is_output slot ≡ false) (u : State) where
          used : Slot → Bool
          used slot = only Spec slot || more slot

          both-within : (slot : Slot) → used slot ≡ true → (is_slot Spec slot || opens behind slot) ≡ true
          unfolding used
          both-within slot e = by-either (is_slot Spec slot) (more slot) (opens behind slot) e (within slot)
            where
              by-either : (a b d : Bool) → (a || b) ≡ true → (b ≡ true → d ≡ true) → (a || d) ≡ true
              by-either true b d e f = refl
              by-either false b d e f = f e

          used-input : (slot : Slot) → used slot ≡ true → is_output slot ≡ false
          unfolding used
          used-input slot e = by-either (is_slot Spec slot) refl e
            where
              by-either : (a : Bool) → is_slot Spec slot ≡ a → (a || more slot) ≡ true → is_output slot ≡ false
              by-either true is e = subst (λ x. is_output x ≡ false) (is_slot-same Spec slot is) refl
              by-either false is e = inputs slot e

          pub read-answered : (reply : Reply) → Reads more t u → code_of reply.status ≢ 3 → Contains (answers_of (Ok c)) (code_of reply.status) →
              AreClosed words (code_of reply.status) u →
              (IsTrue told.files → IsTrue told.left → IsAnswer (held s.files) (input_of s) K (plain_reply reply)) → Answered told words reply s u
          unfolding used
          read-answered reply after accepted_is known closed is = record {
            used = used;
            leaves = leaves-reads used both-within s u (uses-then (only Spec) more s t u reads.uses after.uses);
            counts = λ slot. after.counts slot ∙ reads.counts slot;
            known = among-answers (code_of reply.status) known;
            within = λ slot e. reach-read words slot (code_of reply.status) accepted_is (used-input slot e)
                (opened-used words slot (opened-slot slot (both-within slot e)));
            closed = closed;
            stands = behind-told (λ f l. record {
              outcome = plain_reply reply;
              status_is = refl;
              report_is = refl;
              defined = record { is = is-outcome (held s.files) (input_of s) (plain_reply reply) (accepted K (system f l) (is f l)); files = λ _. record {} };
            });
          }

          pub read-faulted : Uses more t u → (slot : Slot) → more slot ≡ true → RoseAt slot t u → Faulted told words s u
          unfolding used
          read-faulted uses slot one rose = record {
            used = used;
            leaves = leaves-reads used both-within s u (uses-then (only Spec) more s t u reads.uses uses);
            cause = by_file spec behind opened-files (λ f l. (K, system f l)) slot (within slot one) (rw (sym (reads.counts slot)) rose);
          }

          pub read-starved : Reads more t u →
              (IsTrue told.files → IsTrue told.left → (name trace : List ℕ) (workers : ℕ) → c ≡ command.Judge name trace workers → LeavesTrace name trace s u) →
              Starved told words s u
          unfolding used
          read-starved after early = record {
            used = used;
            leaves = leaves-reads used both-within s u (uses-then (only Spec) more s t u reads.uses after.uses);
            counts = λ slot. after.counts slot ∙ reads.counts slot;
            early = behind-told (λ f l name trace workers e. early f l name trace workers (ok-same (command.Judge name trace workers) (sym means ∙ e)));
          }
            where
              ok-same : (d : Command) → (let R : Result Command Usage = Ok c in R) ≡ Ok d → c ≡ d
              ok-same d e = cc

-- a specification that was not read, whichever words mean the command
pub reading-stops : (told : Told) (c : Command) (spec : List ℕ) (behind : List Opened) → files_of c ≡ with_spec spec behind →
    (IsAnswer : (List ℕ → List ℕ) → List ℕ → System → Outcome → Type 0) →
    ((content : List ℕ → List ℕ) (input : List ℕ) (o : Outcome) → IsSpecOutcome (content spec) (IsAnswer content input) o → IsOutcomeOf content input (Ok c) o)
    → (s t : State) (reason : Stop) → IsStop reason Spec s t → StopsAt told c reason s t
reading-stops told c spec behind opens_files IsAnswer as_outcome s t reason stop =
    λ words means. spec-stopped told words c means spec behind opens_files IsAnswer as_outcome s t reason stop
