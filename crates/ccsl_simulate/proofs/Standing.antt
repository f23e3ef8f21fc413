-- What a simulator stands for after a turn, and what the turn has written.
use Rattle.std.proofs.Common.{◌≡◌, inl, inr, ℕ, suc, ◌+◌, ◌*◌, ◌<◌, ◌^◌, List, [], ◌∷◌, ◌++◌, length, true, All, sym, ap, ap₂, ◌∙◌, subst, arith}
use Rattle.std.proofs.Common.{length-append, suc-mul}
use Rattle.std.proofs.lemmas.Bool.{and_parts}
use Rattle.ccsl_base.specs.Clocks.{is_ascending}
use Rattle.ccsl_edge.specs.declared.slot.Slot.TheVariants.{TraceOut, CertOut}
use Rattle.ccsl_edge.specs.World.{State, Told}
use Rattle.ccsl_edge.specs.Calls.{Adds}
use Rattle.ccsl_refute.specs.declared.line.Line.{Line}
use Rattle.ccsl_refute.specs.Below.{AreBelow}
use Rattle.ccsl_refute.specs.Validity.{are_valid, ends_empty}
use Rattle.ccsl_refute.specs.Writing.{lines_text}
use Rattle.ccsl_refute.specs.LineLiterals.{literals}
use Rattle.ccsl_refute.proofs.Bounds.{lines-below}
use Rattle.ccsl_kernel.specs.Syntax.{System}
use Rattle.ccsl_kernel.specs.Lives.{Step}
use Rattle.ccsl_kernel.specs.Accepted.{IsAccepted}
use Rattle.ccsl_kernel.specs.Runs.{full_step}
use Rattle.ccsl_state.specs.Held as states
use Rattle.ccsl_vcd_write.specs.Text.{step_text}
use Rattle.ccsl_items.specs.Formulas.{item_formulas, scope_of}
use Rattle.ccsl_policy.specs.declared.policies.Policy.{Policy}
use Rattle.ccsl_policy.specs.Chosen.{IsChosen, IsDeadlock}
use Rattle.ccsl_policy.specs.Generator as generator
use Rattle.ccsl_edge.specs.declared.stop.Stop.{Stop}
use Rattle.ccsl_edge.specs.declared.stop.Stop.TheVariants.{Fault, Memory}
use Rattle.ccsl_simulate.specs.declared.simulator.Turn.TheVariants.{Goes, Ends}
use Rattle.ccsl_simulate.specs.declared.simulator.Simulator.{Simulator}
use Rattle.ccsl_simulate.specs.Simulation.{words_of_step, simulation}
use Rattle.ccsl_simulate.specs.Going.{run_of, Stands, SameTask, WriteFails, IsStopped, TurnDoes, TurnFails}
use Rattle.ccsl_simulate.proofs.Turns.{next-step, stopped-there}

-- a fact of each value is a fact of the one that there is
pub same-task : {a b c : Simulator} → SameTask a b → SameTask b c → SameTask a c
same-task p q = record { system = q.system ∙ p.system; policy = q.policy ∙ p.policy }

-- the same task has the same run
same-run : {old new : Simulator} (seed n : ℕ) → SameTask old new → run_of new seed n ≡ run_of old seed n
same-run seed n p = ap₂ (λ (K : System) policy. simulation K policy seed n) (ap (λ s. s.now) p.system) p.policy

pub run-size : {old new : Simulator} {seed n : ℕ} → SameTask old new → Stands seed n new → length (run_of old seed n) ≡ n
run-size {seed} {n} p s = sym (ap length (same-run seed n p)) ∙ s.steps

-- what holds of the system and the policy of one holds of those of the other
pub of-task : {old new : Simulator} (P : System → Policy → Type 0) → SameTask old new → P new.system.now new.policy → P old.system.now old.policy
of-task {old} {new} P p h = subst (λ (X : System). P X old.policy) (ap (λ s. s.now) p.system) (subst (λ (y : Policy). P new.system.now y) p.policy h)

module _ {seed n : ℕ} {old mid : Simulator} (task : SameTask old mid) (kept : mid.states ≡ old.states) (s : Stands seed n old) where
  abbrev K : System
  K = old.system.now

  abbrev T : List Step
  T = run_of old seed n

  -- A CHOSEN SET
  module _ {set : Step} (a : is_ascending set ≡ true) (c : IsChosen (scope_of K) (item_formulas K T) old.policy (words_of_step K seed n) set) where
    next : run_of old seed (suc n) ≡ T ++ set ∷ []
    next = (next-step K s.accepted old.policy seed n s.steps set a c).0

    full : full_step K T set ≡ set
    full = (next-step K s.accepted old.policy seed n s.steps set a c).1

    -- the simulator that goes on by it stands for one step more
    pub stands-next : {new : Simulator} → SameTask mid new → generator.StandsFor mid.draw seed (n * K.declared + K.declared) → new.draw ≡ mid.draw
        → new.states.system ≡ mid.states.system
        → ((U : List Step) → states.StandsFor mid.states U → length U + 1 < 2 ^ 64 → states.StandsFor new.states (U ++ full_step mid.states.system U set ∷ []))
        → n + 1 < 2 ^ 64 → Stands seed (suc n) new
    stands-next {new} task' drawn draw system goes few =
        let both : SameTask old new = same-task task task' in
        let at : new.system.now ≡ K = ap (λ s. s.now) both.system in
        let there : mid.states.system ≡ K = ap (λ (h : states.Held). h.system) kept ∙ s.system in
        let step : T ++ full_step mid.states.system T set ∷ [] ≡ run_of old seed (suc n) =
        ap (λ (X : System). T ++ full_step X T set ∷ []) there ∙ ap (λ f. T ++ f ∷ []) full ∙ sym next in
        let more : n * K.declared + K.declared ≡ suc n * K.declared = sym (suc-mul n K.declared) in
        record {
          system = system ∙ there ∙ sym at;
          accepted = subst IsAccepted (sym at) s.accepted;
          steps = ap length (same-run seed (suc n) both ∙ next) ∙ length-append T (set ∷ [])
              ∙ (let e : length T + 1 ≡ suc n = omega (arith, s.steps) in e);
          states =
              subst (states.StandsFor new.states) (step ∙ sym (same-run seed (suc n) both))
              (goes T (subst (λ (h : states.Held). states.StandsFor h T) (sym kept) s.states) (omega (arith, s.steps, few)));
          draw =
              subst (λ g. generator.StandsFor g seed (suc n * new.system.now.declared)) (sym draw)
              (subst (λ k. generator.StandsFor mid.draw seed k) (more ∙ ap (λ (X : System). suc n * X.declared) (sym at)) drawn);
        }

    at-mid : step_text n mid.system.now set ≡ step_text n K set
    at-mid = ap (λ (x : System). step_text n x set) (ap (λ s. s.now) task.system)

    pub turn-goes : {told : Told} {t u : State} → Adds told TraceOut (step_text n mid.system.now set) t u → TurnDoes told K old.policy seed n t u Goes
    turn-goes w = record { step = set; next = next; adds = rw at-mid at w }

    pub step-fails : (told : Told) (t u : State) (fault : Stop) → WriteFails told TraceOut (step_text n mid.system.now set) t u fault
        → TurnFails told K old.policy seed n t u fault
    step-fails told t u Fault w = inl (record { step = set; next = next; adds = rw at-mid at w })
    step-fails told t u Memory w = w

  -- A DEADLOCK
  module _ {lines : List Line} (d : IsDeadlock (scope_of K) (item_formulas K T) lines) where
    names-mid : mid.system.now ≡ K
    names-mid = ap (λ s. s.now) task.system

    -- the lines name clocks of the system
    pub lines-named : All (λ line. AreBelow (length mid.system.now.names) (literals line)) lines
    lines-named = rw names-mid
        (lines-below (scope_of K) (item_formulas K T) [] lines
        (and_parts (are_valid (scope_of K) (item_formulas K T) lines) (ends_empty K.declared lines) d.certificate).0)

    stopped : (told : Told) → IsStopped told K old.policy seed n lines
    stopped told = record { ends = stopped-there K s.accepted old.policy seed n s.steps lines d; certificate = d.certificate }

    at-lines : lines_text mid.system.now.names lines ≡ lines_text K.names lines
    at-lines = ap (λ (X : System). lines_text X.names lines) names-mid

    pub turn-ends : {told : Told} {t u : State} → Adds told CertOut (lines_text mid.system.now.names lines) t u → TurnDoes told K old.policy seed n t u Ends
    turn-ends {told} w = record { lines = lines; stopped = stopped told; adds = rw at-lines at w }

    pub lines-fail : (told : Told) (t u : State) (fault : Stop) → WriteFails told CertOut (lines_text mid.system.now.names lines) t u fault
        → TurnFails told K old.policy seed n t u fault
    lines-fail told t u Fault w = inr (record { lines = lines; stopped = stopped told; adds = rw at-lines at w })
    lines-fail told t u Memory w = w
