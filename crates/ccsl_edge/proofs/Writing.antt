-- Writes in a row: what they add goes on, and a failure leaves a front.
use Rattle.std.proofs.Common.{◌≡◌, ℕ, ◌+◌, List, ◌++◌, length, take, drop, ◌∙◌, sym, ap, subst, append_assoc, append-nil, take-append-drop}
use Rattle.std.proofs.Math.Seq.{take-append-add}
use Rattle.ccsl_edge.specs.declared.slot.Slot.{Slot}
use Rattle.ccsl_edge.specs.World.{State, SlotState, Told}
use Rattle.ccsl_edge.specs.Calls.{Fails, Adds, AddsFront}
use Rattle.ccsl_edge.proofs.Frames.{ChangesOnly-then, Rose-after_same}

pub Adds-append : (told : Told) (slot : Slot) (a b : List ℕ) (s t u : State)
    → Adds told slot a s t → Adds told slot b t u → Adds told slot (a ++ b) s u
Adds-append told slot a b s t u p q = record {
  only = ChangesOnly-then slot s t u p.only q.only;
  here = q.here ∙ ap (λ (x : SlotState). record x { written = (u.slot_of slot).written }) p.here;
  end = λ tells. q.end tells ∙ ap (λ w. w ++ b) (p.end tells) ∙ append_assoc _ a b;
}

-- a call that failed added the empty front
pub Fails-AddsFront : (told : Told) (slot : Slot) (bytes : List ℕ) (s t : State)
    → Fails slot s t → AddsFront told slot bytes s t
Fails-AddsFront told slot bytes s t p =
    let same : (t.slot_of slot).written ≡ (s.slot_of slot).written = ap (λ (x : SlotState). x.written) p.here in
    record {
      only = p.only;
      here =
          p.here
          ∙ ap (λ w. record (s.slot_of slot) { written = w; faults = (t.slot_of slot).faults }) (sym same);
      count = 0;
      front = λ _. same ∙ sym (append-nil (s.slot_of slot).written);
      rose = p.rose;
    }

-- a front that was added after other bytes
pub Adds-AddsFront : (told : Told) (slot : Slot) (a b : List ℕ) (s t u : State)
    → Adds told slot a s t → AddsFront told slot b t u → AddsFront told slot (a ++ b) s u
Adds-AddsFront told slot a b s t u p q = record {
  only = ChangesOnly-then slot s t u p.only q.only;
  here =
      q.here
      ∙ ap (λ (x : SlotState). record x { written = (u.slot_of slot).written; faults = (u.slot_of slot).faults }) p.here;
  count = length a + q.count;
  front = λ tells.
      q.front tells ∙ ap (λ w. w ++ take q.count b) (p.end tells) ∙ append_assoc _ a (take q.count b)
      ∙ ap (λ w. (s.slot_of slot).written ++ w) (sym (take-append-add a b q.count));
  rose = Rose-after_same _ _ _ (ap (λ (x : SlotState). x.faults) p.here) q.rose;
}

-- How far a row of writes has come: what is done of the whole was added, and the rest is left.
pub record IsAdding (told : Told) (slot : Slot) (whole rest : List ℕ) (s t : State) : Type 0 where
  pub done : List ℕ
  pub parts : whole ≡ done ++ rest
  pub adds : Adds told slot done s t

pub IsAdding-more : (told : Told) (slot : Slot) (whole rest : List ℕ) (count : ℕ) (s t u : State)
    → IsAdding told slot whole rest s t → Adds told slot (take count rest) t u
    → IsAdding told slot whole (drop count rest) s u
IsAdding-more told slot whole rest count s t u p q = record {
  done = p.done ++ take count rest;
  parts =
      p.parts ∙ ap (λ w. p.done ++ w) (sym (take-append-drop count rest))
      ∙ sym (append_assoc p.done (take count rest) (drop count rest));
  adds = Adds-append told slot p.done (take count rest) s t u p.adds q;
}

pub IsAdding-fails : (told : Told) (slot : Slot) (whole rest : List ℕ) (s t u : State)
    → IsAdding told slot whole rest s t → Fails slot t u → AddsFront told slot whole s u
IsAdding-fails told slot whole rest s t u p q =
    let P : List ℕ → Type 0 = λ w. AddsFront told slot w s u in
    subst P (sym p.parts)
    (Adds-AddsFront told slot p.done rest s t u p.adds (Fails-AddsFront told slot rest t u q))
