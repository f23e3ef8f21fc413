-- Answers that open no file.
use Rattle.std.proofs.Common.{◌≡◌, ◌≢◌, List, [], ◌∷◌, false, Contains, Result, Ok, Err, IfOk, IfErr, OnOk, refl, sym, ap, ◌∙◌, subst, ℕ, arith}
use Rattle.ccsl_words.specs.Word.{BinaryWord}
use Rattle.ccsl_edge.specs.declared.slot.Slot.{Slot}
use Rattle.ccsl_edge.specs.World.{State, Told, held}
use Rattle.ccsl_command.specs.declared.command.Command.{Command}
use Rattle.ccsl_command.specs.declared.command.Command.TheVariants as command
use Rattle.ccsl_command.specs.declared.table.RelationName.{RelationName}
use Rattle.ccsl_command.specs.declared.usage.Usage.{Usage}
use Rattle.ccsl_command.specs.declared.usage.Usage.TheVariants as usage
use Rattle.ccsl_command.specs.Meaning.{meaning}
use Rattle.ccsl_command.specs.Opened.{files_meant, files_of, files_opened}
use Rattle.ccsl_command.specs.declared.table.RelationName.TheVariants as name
use Rattle.ccsl_periodic.specs.declared.between.Between.{Between}
use Rattle.ccsl_periodic.specs.declared.between.Between.TheVariants.{Precedes, Subclock, Excludes}
use Rattle.ccsl_edge.specs.declared.stop.Stop.{Stop}
use Rattle.ccsl_edge.specs.declared.stop.Stop.TheVariants.{Memory}
use Rattle.ccsl_top.specs.declared.reply.Reply.{Reply}
use Rattle.ccsl_top.specs.Trial.{trial_outcome}
use Rattle.ccsl_top.specs.Outcome.{Outcome}
use Rattle.ccsl_top.specs.Periodic.{IsRelated, holds, fails, IsFiltered, word, long, IsPeriodicOutcome}
use Rattle.ccsl_top.specs.Statuses.{answers_of}
use Rattle.ccsl_top.specs.Opening.{opens}
use Rattle.ccsl_top.specs.Program.{IsOutcome, IsOutcomeOf, usage_outcome}
use Rattle.ccsl_top.specs.Headline.{input_of, kept, untouched, unopened}
use Rattle.ccsl_top.specs.Answered.{code_of, plain_reply, Leaves, Answered, Starved, IsUnanswered}
use Rattle.ccsl_top.proofs.Effects.{reads-none, uses-stay}
use Rattle.std.proofs.lemmas.Bool.{both_ways}

-- a reply that stands for an outcome of a command that opens no file
abbrev IsAnswer : Command → Reply → Type 0
IsAnswer c reply = ((content : List ℕ → List ℕ) (input : List ℕ) → IsOutcomeOf content input (Ok c) (plain_reply reply))
    × Contains (answers_of (Ok c)) (code_of reply.status)

module _ (told : Told) (words : List (List ℕ)) (s : State) where
  leaves-none : Leaves told words (λ slot. false) s s
  leaves-none = record {
    opened = λ slot e. absurd (both_ways false refl e);
    stays = uses-stay told (files_opened words) (λ slot. false) s s (reads-none s).uses;
    whole = λ _ _ name. kept refl;
    fronts = λ _ _ slot out. untouched refl;
  }

  -- a reply that stands for an outcome of the words
  answered-none : (reply : Reply) → ((content : List ℕ → List ℕ) (input : List ℕ) → IsOutcome words content input (plain_reply reply)) →
      Contains (answers_of (meaning words)) (code_of reply.status) → ((slot : Slot) → opens (files_opened words) slot ≡ false) → Answered told words reply s s
  answered-none reply is known none = record {
    used = λ slot. false;
    leaves = leaves-none;
    counts = λ slot. refl;
    known = known;
    within = λ slot e. absurd (both_ways false refl e);
    closed = λ _ slot _ e. absurd (both_ways (opens (files_opened words) slot) (none slot) e);
    stands = λ _. record {
      outcome = plain_reply reply;
      status_is = refl;
      report_is = refl;
      defined =
          record { is = is (held s.files) (input_of s); files = λ _. record {} };
    };
  }

  -- no memory was to be had before a file was opened
  pub starved-at-once : Starved told words s s
  starved-at-once = record {
    used = λ slot. false;
    leaves = leaves-none;
    counts = λ slot. refl;
    early = λ _ spec trace workers means. unopened refl;
  }

  -- the words are refused
  pub words-refused : (fault : Usage) (reply : Reply) → plain_reply reply ≡ usage_outcome fault → meaning words ≡ Err fault → Answered told words reply s s
  words-refused fault reply is means = answered-none reply
      (λ content input. subst (λ m. IsOutcomeOf content input m (plain_reply reply)) (sym means) is)
      (subst (λ m. Contains (answers_of m) (code_of reply.status)) (sym means) (0, omega arith, sym (ap (λ o. o.status) is)))
      (λ slot. ap (λ m. opens (files_meant m) slot) means)

  -- a command that opens no file
  pub command-answered : (c : Command) (reply : Reply) → ((content : List ℕ → List ℕ) (input : List ℕ) → IsOutcomeOf content input (Ok c) (plain_reply reply)) →
      Contains (answers_of (Ok c)) (code_of reply.status) → files_of c ≡ [] → meaning words ≡ Ok c → Answered told words reply s s
  command-answered c reply is known none means = answered-none reply
      (λ content input. subst (λ m. IsOutcomeOf content input m (plain_reply reply)) (sym means) (is content input))
      (subst (λ m. Contains (answers_of m) (code_of reply.status)) (sym means) known)
      (λ slot. ap (λ m. opens (files_meant m) slot) means ∙ ap (λ fs. opens fs slot) none)

module _ (told : Told) (s : State) where
  module _ (result : Result Reply Stop) where
    pub refusal-oks : (words : List (List ℕ)) (fault : Usage) → (fault ≢ usage.Memory → meaning words ≡ Err fault) → OnOk result (fault ≢ usage.Memory) →
        IfOk result (λ reply. plain_reply reply ≡ usage_outcome fault) → IfOk result (λ reply. Answered told words reply s s)
    refusal-oks words fault means cause is = refused-in result cause is
      where
        refused-in : (r : Result Reply Stop) → OnOk r (fault ≢ usage.Memory) → IfOk r (λ reply. plain_reply reply ≡ usage_outcome fault) →
            IfOk r (λ reply. Answered told words reply s s)
        refused-in (Ok reply) n e = words-refused told words s fault reply e (means n)
        refused-in (Err stop) n e = e

    pub starved-errs : IfErr result (λ stop. stop ≡ Memory) → (words : List (List ℕ)) → IfErr result (λ stop. IsUnanswered stop told words s s)
    starved-errs e words = starved-in result e
      where
        starved-in : (r : Result Reply Stop) → IfErr r (λ stop. stop ≡ Memory) → IfErr r (λ stop. IsUnanswered stop told words s s)
        starved-in (Ok reply) e = e
        starved-in (Err stop) e = rw e (starved-at-once told words s)

  pub command-oks : (c : Command) (words : List (List ℕ)) → meaning words ≡ Ok c → files_of c ≡ [] → (result : Result Reply Stop) →
      IfOk result (λ reply. IsAnswer c reply) → IfOk result (λ reply. Answered told words reply s s)
  command-oks c words means none (Ok reply) a = command-answered told words s c reply a.0 a.1 none means
  command-oks c words means none (Err stop) a = a

-- a trial
pub trial-outcome : (c : Command) (clocks steps seed workers : ℕ) → c ≡ command.Trial clocks steps seed workers → (result : Result Reply Stop) →
    IfOk result (λ reply. plain_reply reply ≡ trial_outcome clocks steps seed) →
    IfOk result (λ reply. IsAnswer c reply)
trial-outcome c clocks steps seed workers is (Ok reply) e =
    subst (λ x. IsAnswer x reply) (sym is) (λ content input. e, (0, omega arith, sym (ap (λ o. o.status) e)))
trial-outcome c clocks steps seed workers is (Err stop) e = e

related-status : (u v : BinaryWord) (relation : RelationName) (between : Between) (o : Outcome) → IsRelated u v relation between o
    → Contains (0 ∷ 1 ∷ []) o.status
related-status u v relation between o (holds never left right left_is right_is is) = (0, omega arith, sym (ap (λ x. x.status) is))
related-status u v relation between o (fails k first left right left_is right_is is) = (1, omega arith, sym (ap (λ x. x.status) is))

filtered-status : (u v : BinaryWord) (o : Outcome) → IsFiltered u v o → Contains (0 ∷ 1 ∷ []) o.status
filtered-status u v o (word n plain short w on text text_is is) = (0, omega arith, sym (ap (λ x. x.status) is))
filtered-status u v o (long n plain many is) = (1, omega arith, sym (ap (λ x. x.status) is))

periodic-status : (u v : BinaryWord) (relation : RelationName) (o : Outcome) → IsPeriodicOutcome u v relation o → Contains (0 ∷ 1 ∷ []) o.status
periodic-status u v name.Precedes o is = related-status u v name.Precedes Precedes o is
periodic-status u v name.Subclock o is = related-status u v name.Subclock Subclock o is
periodic-status u v name.Excludes o is = related-status u v name.Excludes Excludes o is
periodic-status u v name.On o is = filtered-status u v o is

-- words and a relation between their filters
pub periodic-outcome : (c : Command) (left right : BinaryWord) (relation : RelationName) → c ≡ command.Periodic left right relation
    → (result : Result Reply Stop) →
    IfOk result (λ reply. IsPeriodicOutcome left right relation (plain_reply reply)) →
    IfOk result (λ reply. IsAnswer c reply)
periodic-outcome c left right relation is (Ok reply) e =
    subst (λ x. IsAnswer x reply) (sym is) (λ content input. e, periodic-status left right relation (plain_reply reply) e)
periodic-outcome c left right relation is (Err stop) e = e
