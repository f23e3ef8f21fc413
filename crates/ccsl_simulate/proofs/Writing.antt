-- What a simulation writes: the text of the first steps is a front of the whole, and so is what a failed write leaves.
use Rattle.std.proofs.Common.{◌≡◌, ◌⊎◌, inl, inr, ℕ, suc, ◌+◌, ◌-◌, ◌<◌, ◌≤◌, min, List, [], ◌∷◌, ◌++◌, length, take, true, IsTrue, ⊎_elim, sym, ap, ◌∙◌, subst}
use Rattle.std.proofs.Common.{arith, append-nil, append_assoc}
use Rattle.std.proofs.lemmas.Bool.{cases_lt}
use Rattle.std.proofs.lemmas.List.{take_all, take-append-le}
use Rattle.ccsl_edge.specs.declared.slot.Slot.{Slot}
use Rattle.ccsl_edge.specs.declared.slot.Slot.TheVariants.{TraceOut, CertOut}
use Rattle.ccsl_edge.specs.World.{State, Told}
use Rattle.ccsl_edge.specs.Calls.{Adds, AddsFront}
use Rattle.ccsl_edge.proofs.Writing.{Adds-append, Adds-AddsFront}
use Rattle.ccsl_refute.specs.declared.line.Line.{Line}
use Rattle.ccsl_refute.specs.Validity.{is_certificate}
use Rattle.ccsl_kernel.specs.Syntax.{System}
use Rattle.ccsl_kernel.specs.Lives.{Step}
use Rattle.ccsl_vcd_write.specs.Text.{step_text, steps_text, header_text, vcd_text}
use Rattle.ccsl_vcd_write.proofs.Growing.{trace-snoc}
use Rattle.ccsl_items.specs.Formulas.{item_formulas, scope_of}
use Rattle.ccsl_policy.specs.declared.policies.Policy.{Policy}
use Rattle.ccsl_edge.specs.declared.stop.Stop.{Stop}
use Rattle.ccsl_edge.specs.declared.stop.Stop.TheVariants.{Fault, Memory}
use Rattle.ccsl_simulate.specs.Simulation.{simulation}
use Rattle.ccsl_simulate.specs.Outcome.{IsFull, IsBlocked, IsDeadlock, FailsAtCertificate, IsCutShort, IsUndone}
use Rattle.ccsl_simulate.specs.Going.{IsStopped, WritesStep, FailsAtStep, WritesLines, FailsAtLines, TurnFails}
use Rattle.ccsl_simulate.proofs.Runs.{run-zero, later}

steps-append : (k : ℕ) (K : System) (S more : List Step) → steps_text k K (S ++ more) ≡ steps_text k K S ++ steps_text (k + length S) K more
steps-append k K [] more = let e : k ≡ k + 0 = omega arith in ap (λ n. steps_text n K more) e
steps-append k K (s ∷ S) more =
    let e : k + 1 + length S ≡ k + length (s ∷ S) = omega arith in
    ap (λ bs. step_text k K s ++ bs) (steps-append (k + 1) K S more ∙ ap (λ n. steps_text (k + 1) K S ++ steps_text n K more) e)
    ∙ sym (append_assoc (step_text k K s) (steps_text (k + 1) K S) (steps_text (k + length (s ∷ S)) K more))

trace-append : (K : System) (S more : List Step) → vcd_text K (S ++ more) ≡ vcd_text K S ++ steps_text (0 + length S) K more
trace-append K S more = ap (λ bs. header_text K ++ bs) (steps-append 0 K S more)
    ∙ sym (append_assoc (header_text K) (steps_text 0 K S) (steps_text (0 + length S) K more))

-- a front of some bytes is a front of more
front-more : {told : Told} {slot : Slot} {a : List ℕ} (rest : List ℕ) {s u : State} → AddsFront told slot a s u → AddsFront told slot (a ++ rest) s u
front-more {slot} {a} rest {s} q = record {
  only = q.only;
  here = q.here;
  count = min q.count (length a);
  front = λ tells. q.front tells ∙ ap (λ w. (s.slot_of slot).written ++ w) (cut q.count);
  rose = q.rose;
}
  where
    cut : (n : ℕ) → take n a ≡ take (min n (length a)) (a ++ rest)
    cut n =
        ⊎_elim
        (λ (l : n < length a). let e : n ≡ min n (length a) = omega arith in sym (take-append-le n a rest (omega arith)) ∙ ap (λ k. take k (a ++ rest)) e)
        (λ (l : length a ≤ n).
        let e : length a ≡ min n (length a) = omega arith in
        take_all n a l ∙ sym (take_all (length a) a (omega arith)) ∙ sym (take-append-le (length a) a rest (omega arith)) ∙ ap (λ k. take k (a ++ rest)) e)
        (cases_lt n (length a))

-- an output slot stays open while bytes are added to the trace
module _ {told : Told} {bytes : List ℕ} {s t : State} (p : Adds told TraceOut bytes s t) where
  pub trace-open : IsTrue (s.slot_of TraceOut).is_open → IsTrue (t.slot_of TraceOut).is_open
  trace-open o = rw p.here o

  pub cert-open : IsTrue (s.slot_of CertOut).is_open → IsTrue (t.slot_of CertOut).is_open
  cert-open o = rw (p.only.others CertOut (λ e. cc)) o

module _ (K : System) (policy : Policy) (seed steps : ℕ) where
  abbrev run : ℕ → List Step
  run n = simulation K policy seed n

  -- the text of the first n steps is a front of the whole
  pub text-front : (n : ℕ) → n ≤ steps → (rest : List ℕ) × (vcd_text K (run steps) ≡ vcd_text K (run n) ++ rest)
  text-front n l =
      let q = later K policy seed n steps l in
      (steps_text (0 + length (run n)) K q.0, ap (vcd_text K) q.1 ∙ trace-append K (run n) q.0)

  -- the header was not written
  pub header-fails : {told : Told} {s u : State} → AddsFront told TraceOut (header_text K) s u → AddsFront told TraceOut (vcd_text K (run steps)) s u
  header-fails q = front-more (steps_text 0 K (run steps)) q

  -- the header alone is the text of no steps
  pub header-adds : {told : Told} {s t : State} → Adds told TraceOut (header_text K) s t → Adds told TraceOut (vcd_text K (run 0)) s t
  header-adds q = rw (run-zero K policy seed, append-nil (header_text K)) q

  -- with all its steps the run is whole
  pub full-there : (n : ℕ) → n ≡ steps → length (run n) ≡ n → {told : Told} {s t : State} → Adds told TraceOut (vcd_text K (run n)) s t
      → IsFull told K policy seed steps s t
  full-there n e size q = record { count = ap (λ k. length (run k)) (sym e) ∙ size ∙ e; trace = rw e at q }

  module _ (n : ℕ) (l : n < steps) (size : length (run n) ≡ n) {told : Told} {s t : State} (p : Adds told TraceOut (vcd_text K (run n)) s t) (u : State) where
    -- the text with one more step
    text-next : (step : Step) → run (suc n) ≡ run n ++ step ∷ [] → vcd_text K (run (suc n)) ≡ vcd_text K (run n) ++ step_text n K step
    text-next step e = ap (vcd_text K) e ∙ trace-snoc K (run n) step ∙ ap (λ k. vcd_text K (run n) ++ step_text k K step) size

    pub step-adds : WritesStep told K policy seed n t u → Adds told TraceOut (vcd_text K (run (suc n))) s u
    step-adds q =
        subst (λ bs. Adds told TraceOut bs s u) (sym (text-next q.step q.next))
        (Adds-append told TraceOut (vcd_text K (run n)) (step_text n K q.step) s t u p q.adds)

    step-fails : FailsAtStep told K policy seed n t u → AddsFront told TraceOut (vcd_text K (run steps)) s u
    step-fails q =
        let r = text-front (suc n) (omega arith) in
        subst (λ bs. AddsFront told TraceOut bs s u) (sym (r.1 ∙ ap (λ bs. bs ++ r.0) (text-next q.step q.next)))
        (front-more r.0
        (Adds-AddsFront told TraceOut (vcd_text K (run n)) (step_text n K q.step) s t u p q.adds))

    blocked : (lines : List Line) → IsStopped told K policy seed n lines → IsBlocked told K policy seed steps s u n lines t
    blocked lines q =
        let e : n + (steps - n) ≡ steps = omega arith in
        let same : run n ≡ run steps = sym (q.ends (steps - n)) ∙ ap run e in
        record {
          count = sym (ap length same) ∙ size;
          short = l;
          certificate = subst (λ T. is_certificate (scope_of K) (item_formulas K T) lines ≡ true) same q.certificate;
          trace = subst (λ T. Adds told TraceOut (vcd_text K T) s t) same p;
        }

    pub ends-there : WritesLines told K policy seed n t u → IsDeadlock told K policy seed steps s u n
    ends-there q = record { lines = q.lines; written = t; blocked = blocked q.lines q.stopped; text = q.adds }

    fails-there : FailsAtStep told K policy seed n t u ⊎ FailsAtLines told K policy seed n t u
        → AddsFront told TraceOut (vcd_text K (run steps)) s u ⊎ FailsAtCertificate told K policy seed steps s u
    fails-there q = ⊎_elim (λ a. inl (step-fails a))
        (λ b. inr (record { at = n; lines = b.lines; written = t; blocked = blocked b.lines b.stopped; text = b.adds })) q

    cut-there : u ≡ t → IsCutShort told K policy seed steps s u
    cut-there e =
        let r = text-front n (omega arith) in
        let a = vcd_text K (run n) in
        record {
          count = length a;
          trace =
              subst (λ v. Adds told TraceOut (take (length a) (vcd_text K (run steps))) s v) (sym e)
              (subst (λ bs. Adds told TraceOut bs s t)
              (sym (ap (take (length a)) r.1 ∙ take-append-le (length a) a r.0 (omega arith) ∙ take_all (length a) a (omega arith)))
              p);
        }

    -- a turn that failed leaves a run undone
    pub undone-there : (fault : Stop) → TurnFails told K policy seed n t u fault → IsUndone told K policy seed steps s u fault
    undone-there Fault q = fails-there q
    undone-there Memory e = cut-there e
