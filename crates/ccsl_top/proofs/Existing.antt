-- Words, files and standard input have an outcome.
use Rattle.std.proofs.Common.{◌≡◌, ◌↔◌, ◌⊎◌, ℕ, ◌+◌, ◌<◌, ◌≤◌, List, [], length, false, Option, Some, None, Result, Ok, Err, refl}
use Rattle.std.proofs.Common.{⊎_elim, arith}
use Rattle.std.proofs.lemmas.Bool.{cases_lt}
use Rattle.ccsl_base.specs.declared.limits.TheConstants.{MAX_LETTERS}
use Rattle.ccsl_base.specs.declared.rows.Row.{Row}
use Rattle.ccsl_words.specs.Word.{BinaryWord, is_finite}
use Rattle.ccsl_words.specs.Spelling.{spelling, read_word}
use Rattle.ccsl_words.specs.Reads.{Reads}
use Rattle.ccsl_command.specs.declared.command.Command.{Command}
use Rattle.ccsl_command.specs.declared.command.Command.TheVariants.{Check, Simulate, Judge, Certify, Trial, Periodic, Explain, Session}
use Rattle.ccsl_command.specs.declared.table.RelationName.{RelationName}
use Rattle.ccsl_command.specs.declared.table.RelationName.TheVariants as name
use Rattle.ccsl_command.specs.declared.usage.Usage.{Usage}
use Rattle.ccsl_command.specs.Meaning.{meaning}
use Rattle.ccsl_formula.specs.declared.scope.Scope.{Scope}
use Rattle.ccsl_formula.specs.Formula.{Formula}
use Rattle.ccsl_refute.specs.Writing.{lines_text}
use Rattle.ccsl_kernel.specs.Syntax.{System}
use Rattle.ccsl_kernel.specs.Accepted.{IsAccepted}
use Rattle.ccsl_kernel.specs.Verdict.{Verdict, Run, Violated, completed_rows}
use Rattle.ccsl_items.specs.Formulas.{item_formulas, scope_of}
use Rattle.ccsl_items.specs.Laws.{FormulasReadNamed}
use Rattle.ccsl_explain.specs.Laws.{HasExplanation, ExplanationsExist}
use Rattle.ccsl_explain.specs.Laws as explained
use Rattle.ccsl_policy.specs.declared.policies.Policy.{Policy}
use Rattle.ccsl_simulate.specs.Simulation.{simulation}
use Rattle.ccsl_simulate.specs.Laws.{SimulationIsOne}
use Rattle.ccsl_simulate.specs.Ends.{DeadlocksHaveCertificates}
use Rattle.ccsl_periodic.specs.declared.between.Between.{Between}
use Rattle.ccsl_periodic.specs.declared.between.Between.TheVariants.{Precedes, Subclock, Excludes}
use Rattle.ccsl_periodic.specs.Laws.{CanonicalWordsExist, RelationsAreDecided, WordsOnWordsExist}
use Rattle.ccsl_spec.specs.Laws.{SystemOrRefusal, SystemsAreAccepted}
use Rattle.ccsl_vcd.specs.declared.fault.VcdFault.{VcdFault}
use Rattle.ccsl_vcd.specs.Reading.{reading}
use Rattle.ccsl_vcd.specs.Rows.{recorded}
use Rattle.ccsl_bind.specs.Collected.{wanted_of}
use Rattle.ccsl_report.specs.Texts.{trace_text, explain_open_text, periodic_holds_text, periodic_fails_text, periodic_word_text, periodic_long_text}
use Rattle.ccsl_report.specs.Texts.{broken_text}
use Rattle.std.specs.Prelude.{codes}
use Rattle.ccsl_top.specs.Outcome.{Outcome, outcome}
use Rattle.ccsl_top.specs.Check.{check_outcome}
use Rattle.ccsl_vcd.specs.declared.limits.TheConstants.{LIMITS}
use Rattle.ccsl_top.specs.Judge.{judged, judge_outcome}
use Rattle.ccsl_top.specs.Simulate.{named_policy, IsCertificate, none, lines, simulate_outcome, IsSimulated}
use Rattle.ccsl_top.specs.Certify.{certify_outcome}
use Rattle.ccsl_top.specs.Explain.{blocked_outcome, IsRunExplained, possible, blocked, IsVerdictExplained, IsReadExplained, IsExplainOutcome}
use Rattle.ccsl_top.specs.Periodic.{IsWritten, IsRelated, holds, fails, IsFiltered, word, long, IsPeriodicOutcome}
use Rattle.ccsl_top.specs.Trial.{trial_outcome}
use Rattle.ccsl_top.specs.Converse.{session_outcome}
use Rattle.ccsl_top.specs.Program.{IsSpecOutcome, refused, accepted, usage_outcome, IsCommandOutcome, IsOutcomeOf}
use Rattle.ccsl_top.specs.Laws.{OutcomesExist}
use Rattle.ccsl_top.proofs.Meant.{IsFine, HasFineWords, MeansFine, meaning-fine}

-- ONE ON A SPECIFICATION, where there is one on each accepted system
module _ (read : SystemOrRefusal) (systems : SystemsAreAccepted) where
  spec-outcome : (text : List ℕ) (IsAnswer : System → Outcome → Type 0) → ((K : System) → IsAccepted K → (o : Outcome) × IsAnswer K o) →
      (o : Outcome) × IsSpecOutcome text IsAnswer o
  spec-outcome text IsAnswer each = ⊎_elim
      (λ q. let o = each q.0 (systems text q.0 q.1) in (o.0, accepted q.0 q.1 o.1))
      (λ q. (outcome 3 q.0, refused q.0 q.1 refl))
      (read text)

-- ONE OF `simulate`: a certificate where the run ends early, else none
module _ (K : System) (p : Policy) (one : SimulationIsOne K p) (deadlocks : DeadlocksHaveCertificates K) (seed steps : ℕ) where
  pub certificate : (text : List ℕ) × IsCertificate K p seed steps text
  certificate =
      let few = ((one seed steps (simulation K p seed steps)).1 refl).few in
      ⊎_elim
      (λ (early : length (simulation K p seed steps) < steps).
      let c = deadlocks p seed steps early in
      (lines_text K.names c.lines, lines c.lines early c.valid refl))
      (λ (all : steps ≤ length (simulation K p seed steps)). ([], none (omega (arith, all, few)) refl))
      (cases_lt (length (simulation K p seed steps)) steps)

  simulate-outcome : (trace cert : List ℕ) → (o : Outcome) × IsSimulated K p seed steps trace cert o
  simulate-outcome trace cert = (simulate_outcome K p seed steps trace cert certificate.0, record { text = certificate.0; valid = certificate.1; is = refl })

-- ONE OF `explain`
module _ (K : System) (ok : IsAccepted K) (named : FormulasReadNamed K) (exist : (scope : Scope) (formulas : List Formula) → ExplanationsExist scope formulas)
    (cert trace : List ℕ) where
  run-outcome : (steps : ℕ) (formulas : List Formula) → HasExplanation (scope_of K) formulas → (o : Outcome) × IsRunExplained K cert steps formulas o
  run-outcome steps formulas (explained.possible step is) = (outcome 1 (explain_open_text steps), possible step is refl)
  run-outcome steps formulas (explained.blocked core proof without why) = (blocked_outcome K cert steps core proof without, blocked core proof without why refl)

  verdict-outcome : (rows : List Row) (v : Verdict) → (o : Outcome) × IsVerdictExplained K cert rows v o
  verdict-outcome rows (Violated step time item) = (outcome 1 (broken_text (codes "explain: ") step time item K), refl)
  verdict-outcome rows (Run steps) =
      run-outcome steps (item_formulas K (completed_rows K rows))
      (exist (scope_of K) (item_formulas K (completed_rows K rows)) (let l : K.declared ≤ length K.names = omega (arith, ok.defined) in l)
      (named (completed_rows K rows)))

  read-outcome : (fault : Option VcdFault) → (o : Outcome) × IsReadExplained K cert trace fault o
  read-outcome (Some fault) = (outcome 4 (trace_text fault K), refl)
  read-outcome None = verdict-outcome (recorded (wanted_of K) LIMITS trace) (judged K trace)

  explain-outcome : (o : Outcome) × IsExplainOutcome K cert trace o
  explain-outcome = read-outcome (reading (wanted_of K) LIMITS trace).fault

-- ONE OF `periodic`
module _ (canonical : CanonicalWordsExist) (decided : RelationsAreDecided) (filters : WordsOnWordsExist) where
  written : (w : BinaryWord) → is_finite w ≡ false → (text : List ℕ) × IsWritten w text
  written w infinite = let c = canonical w infinite in (spelling c.0, record { canonical = c.0; is = c.1; spelled = refl })

  module _ (u v : BinaryWord) (a : IsFine u) (b : IsFine v) where
    related-outcome : (relation : RelationName) (between : Between) → (o : Outcome) × IsRelated u v relation between o
    related-outcome relation between =
        let l = written u a.infinite in
        let r = written v b.infinite in
        ⊎_elim
        (λ never. (outcome 0 (periodic_holds_text l.0 r.0 relation), holds never l.0 r.0 l.1 r.1 refl))
        (λ q. (outcome 1 (periodic_fails_text l.0 r.0 relation (q.0 + 1)), fails q.0 q.1 l.0 r.0 l.1 r.1 refl))
        (decided between u v a.infinite b.infinite a.few b.few)

    filtered-outcome : (o : Outcome) × IsFiltered u v o
    filtered-outcome =
        let q = filters u v a.infinite b.infinite in
        let t = written q.word q.is_on.infinite in
        ⊎_elim
        (λ (many : MAX_LETTERS < q.len). (outcome 1 (periodic_long_text q.len), long q.len q.plain many refl))
        (λ (short : q.len ≤ MAX_LETTERS). (outcome 0 (periodic_word_text t.0), word q.len q.plain short q.word q.is_on t.0 t.1 refl))
        (cases_lt MAX_LETTERS q.len)

    periodic-outcome : (relation : RelationName) → (o : Outcome) × IsPeriodicOutcome u v relation o
    periodic-outcome name.Precedes = related-outcome name.Precedes Precedes
    periodic-outcome name.Subclock = related-outcome name.Subclock Subclock
    periodic-outcome name.Excludes = related-outcome name.Excludes Excludes
    periodic-outcome name.On = filtered-outcome

-- ONE OF EACH COMMAND
module _ (read : SystemOrRefusal) (systems : SystemsAreAccepted) (canonical : CanonicalWordsExist) (decided : RelationsAreDecided) (filters : WordsOnWordsExist)
    (computed : (text : List ℕ) (w : BinaryWord) → (read_word text ≡ Some w) ↔ Reads text w)
    (one : (K : System) (p : Policy) → SimulationIsOne K p) (deadlocks : (K : System) → IsAccepted K → DeadlocksHaveCertificates K)
    (named : (K : System) → IsAccepted K → FormulasReadNamed K) (exist : (scope : Scope) (formulas : List Formula) → ExplanationsExist scope formulas) where
  command-outcome : (content : List ℕ → List ℕ) (input : List ℕ) (command : Command) → HasFineWords command
      → (o : Outcome) × IsCommandOutcome content input command o
  command-outcome content input (Check spec) f = spec-outcome read systems (content spec) (λ K o. o ≡ check_outcome K) (λ K ok. (check_outcome K, refl))
  command-outcome content input (Simulate spec policy seed steps trace cert) f =
      spec-outcome read systems (content spec) (λ K o. IsSimulated K (named_policy policy) seed steps trace cert o)
      (λ K ok. simulate-outcome K (named_policy policy) (one K (named_policy policy)) (deadlocks K ok) seed steps trace cert)
  command-outcome content input (Judge spec trace workers) f =
      spec-outcome read systems (content spec) (λ K o. o ≡ judge_outcome K (content trace)) (λ K ok. (judge_outcome K (content trace), refl))
  command-outcome content input (Certify spec trace cert) f =
      spec-outcome read systems (content spec) (λ K o. o ≡ certify_outcome K (content trace) (content cert))
      (λ K ok. (certify_outcome K (content trace) (content cert), refl))
  command-outcome content input (Trial clocks steps seed workers) f = (trial_outcome clocks steps seed, refl)
  command-outcome content input (Periodic left right relation) f = periodic-outcome canonical decided filters left right f.0 f.1 relation
  command-outcome content input (Explain spec trace cert) f =
      spec-outcome read systems (content spec) (λ K o. IsExplainOutcome K cert (content trace) o)
      (λ K ok. explain-outcome K ok (named K ok) exist cert (content trace))
  command-outcome content input (Session spec policy seed) f =
      spec-outcome read systems (content spec) (λ K o. o ≡ session_outcome K (named_policy policy) seed input)
      (λ K ok. (session_outcome K (named_policy policy) seed input, refl))

  meant-outcome : (content : List ℕ → List ℕ) (input : List ℕ) (meant : Result Command Usage) → MeansFine meant
      → (o : Outcome) × IsOutcomeOf content input meant o
  meant-outcome content input (Err fault) f = (usage_outcome fault, refl)
  meant-outcome content input (Ok command) f = command-outcome content input command f

  pub outcomes-exist : OutcomesExist
  outcomes-exist words content input = meant-outcome content input (meaning words) (meaning-fine computed words)
