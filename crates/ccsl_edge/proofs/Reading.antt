-- Reads in a row: what they take goes on, and a failure leaves what was taken.
use Rattle.std.proofs.Common.{◌≡◌, ℕ, ◌+◌, ◌≤◌, List, [], ◌++◌, length, take, ◌∙◌, sym, ap, refl, arith, append_assoc}
use Rattle.std.proofs.Common.{length-append, length-take-le}
use Rattle.ccsl_edge.specs.declared.slot.Slot.{Slot}
use Rattle.ccsl_edge.specs.World.{State, SlotState, Told}
use Rattle.ccsl_edge.specs.Calls.{Fails, Reads, Takes, ReadsThenFails, ReadsTooMuch, ReadsPart}
use Rattle.ccsl_edge.proofs.Frames.{ChangesOnly-same, ChangesOnly-then, Rose-after_same}

pub Reads-none : (told : Told) (slot : Slot) (s : State) → Reads told slot [] s s
Reads-none told slot s = record { only = ChangesOnly-same slot s; here = refl; taken = λ _. refl }

pub Reads-append : (told : Told) (slot : Slot) (a b : List ℕ) (s t u : State)
    → Reads told slot a s t → Reads told slot b t u → Reads told slot (a ++ b) s u
Reads-append told slot a b s t u p q = record {
  only = ChangesOnly-then slot s t u p.only q.only;
  here = q.here ∙ ap (λ (x : SlotState). record x { left = (u.slot_of slot).left }) p.here;
  taken = λ tells. p.taken tells ∙ ap (λ w. a ++ w) (q.taken tells) ∙ sym (append_assoc a b (u.slot_of slot).left);
}

-- a call that failed after these bytes were taken
pub Reads-fails : (told : Told) (slot : Slot) (a : List ℕ) (s t u : State)
    → Reads told slot a s t → Fails slot t u → ReadsThenFails told slot a s u
Reads-fails told slot a s t u p q =
    let same : (u.slot_of slot).left ≡ (t.slot_of slot).left = ap (λ (x : SlotState). x.left) q.here in
    record {
      only = ChangesOnly-then slot s t u p.only q.only;
      here =
          q.here
          ∙ ap (λ (x : SlotState). record x { faults = (u.slot_of slot).faults }) p.here
          ∙ ap (λ w. record (s.slot_of slot) { left = w; faults = (u.slot_of slot).faults }) (sym same);
      taken = λ tells. p.taken tells ∙ ap (λ w. a ++ w) (sym same);
      rose = Rose-after_same _ _ _ (ap (λ (x : SlotState). x.faults) p.here) q.rose;
    }

-- How far a row of reads has come: at most so many bytes were taken, these.
pub record IsReading (told : Told) (slot : Slot) (limit : ℕ) (all : List ℕ) (s t : State) : Type 0 where
  pub within : length all ≤ limit
  pub reads : Reads told slot all s t

pub IsReading-more : (told : Told) (slot : Slot) (limit : ℕ) (all buf : List ℕ) (count : ℕ) (s t u : State)
    → IsReading told slot limit all s t → Takes told slot count t u buf → length all + count ≤ limit
    → IsReading told slot limit (all ++ take count buf) s u
IsReading-more told slot limit all buf count s t u p q le = record {
  within = rw length-append (rw (length-take-le count buf q.within) le);
  reads = Reads-append told slot all (take count buf) s t u p.reads q.reads;
}

pub IsReading-past : (told : Told) (slot : Slot) (limit : ℕ) (all buf : List ℕ) (count : ℕ) (s t u : State)
    → IsReading told slot limit all s t → Takes told slot count t u buf → length all + count ≡ limit + 1
    → ReadsTooMuch told slot limit s u
IsReading-past told slot limit all buf count s t u p q sum =
    let past : length (all ++ take count buf) ≡ limit + 1 =
    rw length-append (rw (length-take-le count buf q.within) sum) in
    let reads = Reads-append told slot all (take count buf) s t u p.reads q.reads in
    record {
      bytes = all ++ take count buf;
      past = past;
      reads = reads;
      more = λ tells.
          rw (reads.taken tells) (omega (arith, past, length-append (all ++ take count buf) (u.slot_of slot).left));
    }

pub IsReading-part : (told : Told) (slot : Slot) (limit : ℕ) (all : List ℕ) (s t : State)
    → IsReading told slot limit all s t → ReadsPart told slot limit s t
IsReading-part told slot limit all s t p = record { bytes = all; within = p.within; reads = p.reads }
