-- Reading a dump and writing a trace, one call after another.
use Rattle.std.proofs.Common.{◌≡◌, ◌≢◌, ℕ, List, [], ◌++◌, take, refl, sym, ap, ◌∙◌, append_assoc, append-nil, subst, IsTrue}
use Rattle.ccsl_edge.specs.declared.slot.Slot.TheVariants.{Trace}
use Rattle.ccsl_edge.specs.World.{State, SlotState, Told}
use Rattle.ccsl_edge.specs.Calls.{ChangesOnly, Fails, Reads, Adds, AddsFront}
use Rattle.ccsl_events_top.specs.declared.sink.Sink.{Sink}
use Rattle.ccsl_events_top.specs.declared.sink.Sink.TheVariants.{Standard, File}
use Rattle.ccsl_events_top.specs.Streams.{slot_of, Streams}

-- the dump is read through a slot of its own
pub apart : (sink : Sink) → Trace ≢ slot_of sink
apart Standard e = absurd (cc)
apart File e = absurd (cc)

apart-too : (sink : Sink) → slot_of sink ≢ Trace
apart-too sink e = apart sink (sym e)

pub streams-none : (told : Told) (sink : Sink) (s : State) → Streams told sink [] [] s s
streams-none told sink s = record {
  files = refl;
  others = λ _ _ _. refl;
  trace = refl;
  out = refl;
  taken = λ _. refl;
  grown = λ _. sym (append-nil _);
}

module _ (told : Told) (sink : Sink) (read written : List ℕ) (s t u : State) (p : Streams told sink read written s t) where
  -- where nothing but the dump's slot has changed
  dump-alone : (more : List ℕ) → ChangesOnly Trace t u
      → u.slot_of Trace ≡ record (t.slot_of Trace) { left = (u.slot_of Trace).left; faults = (u.slot_of Trace).faults }
      → (IsTrue told.left → (t.slot_of Trace).left ≡ more ++ (u.slot_of Trace).left) → Streams told sink (read ++ more) written s u
  dump-alone more only here taken =
      let same : u.slot_of (slot_of sink) ≡ t.slot_of (slot_of sink) = only.others (slot_of sink) (apart-too sink) in
      record {
        files = only.files ∙ p.files;
        others = λ slot other apart. only.others slot other ∙ p.others slot other apart;
        trace = here ∙ ap (λ (x : SlotState). record x { left = (u.slot_of Trace).left; faults = (u.slot_of Trace).faults }) p.trace;
        out = same ∙ p.out ∙ ap (λ (x : SlotState). record (s.slot_of (slot_of sink)) { written = x.written; faults = x.faults }) (sym same);
        taken = λ tells. p.taken tells ∙ ap (λ (xs : List ℕ). read ++ xs) (taken tells) ∙ sym (append_assoc read more _);
        grown = λ tells. ap (λ (x : SlotState). x.written) same ∙ p.grown tells;
      }

  pub streams-read : (more : List ℕ) → Reads told Trace more t u → Streams told sink (read ++ more) written s u
  streams-read more q =
      dump-alone more q.only
      (q.here ∙ ap (λ (n : ℕ). record (t.slot_of Trace) { left = (u.slot_of Trace).left; faults = n }) (sym (ap (λ (x : SlotState). x.faults) q.here)))
      q.taken

  pub streams-unread : Fails Trace t u → Streams told sink read written s u
  streams-unread q =
      let same : (u.slot_of Trace).left ≡ (t.slot_of Trace).left = ap (λ (x : SlotState). x.left) q.here in
      subst (λ (xs : List ℕ). Streams told sink xs written s u) (append-nil read)
      (dump-alone [] q.only
      (q.here ∙ ap (λ (xs : List ℕ). record (t.slot_of Trace) { left = xs; faults = (u.slot_of Trace).faults }) (sym same)) (λ _. sym same))

module _ (told : Told) (sink : Sink) (read written bytes : List ℕ) (s t u : State) (p : Streams told sink read written s t) where
  -- where nothing but the slot that is written to has changed
  out-alone : (more : List ℕ) → ChangesOnly (slot_of sink) t u
      → u.slot_of (slot_of sink)
      ≡ record (t.slot_of (slot_of sink)) { written = (u.slot_of (slot_of sink)).written; faults = (u.slot_of (slot_of sink)).faults }
      → (IsTrue told.written → (u.slot_of (slot_of sink)).written ≡ (t.slot_of (slot_of sink)).written ++ more)
      → Streams told sink read (written ++ more) s u
  out-alone more only here end =
      let same : u.slot_of Trace ≡ t.slot_of Trace = only.others Trace (apart sink) in
      record {
        files = only.files ∙ p.files;
        others = λ slot dump other. only.others slot other ∙ p.others slot dump other;
        trace = same ∙ p.trace ∙ ap (λ (x : SlotState). record (s.slot_of Trace) { left = x.left; faults = x.faults }) (sym same);
        out =
            here
            ∙ ap (λ (x : SlotState). record x { written = (u.slot_of (slot_of sink)).written; faults = (u.slot_of (slot_of sink)).faults }) p.out;
        taken = λ tells. p.taken tells ∙ ap (λ (x : SlotState). read ++ x.left) (sym same);
        grown = λ tells.
            end tells ∙ ap (λ (xs : List ℕ). xs ++ more) (p.grown tells) ∙ append_assoc (s.slot_of (slot_of sink)).written written more;
      }

  pub streams-added : Adds told (slot_of sink) bytes t u → Streams told sink read (written ++ bytes) s u
  streams-added q =
      out-alone bytes q.only
      (q.here
      ∙ ap (λ (n : ℕ). record (t.slot_of (slot_of sink)) { written = (u.slot_of (slot_of sink)).written; faults = n })
      (sym (ap (λ (x : SlotState). x.faults) q.here)))
      q.end

  pub streams-front : (q : AddsFront told (slot_of sink) bytes t u) → Streams told sink read (written ++ take q.count bytes) s u
  streams-front q = out-alone (take q.count bytes) q.only q.here q.front
