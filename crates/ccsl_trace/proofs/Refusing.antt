-- How a fault of the reader is answered.
use Rattle.std.proofs.Common.{◌≡◌, ℕ, ◌+◌, ◌≤◌, List, [], ◌++◌, length, take, drop, nat_le, Bool, true, false, ◌||◌, Option, Some, None, IsTrue, refl, sym, ap}
use Rattle.std.proofs.Common.{◌∙◌, subst, append_assoc, arith, length-append, length-take}
use Rattle.std.specs.Prelude.{IfSome, Result, Err, ◌≢◌}
use Rattle.std.proofs.lemmas.Bool.{leb-true, leb-false}
use Rattle.std.proofs.lemmas.List.{append-nil, take-append-le, take-append-drop}
use Rattle.ccsl_edge.specs.declared.slot.Slot.TheVariants.{Trace}
use Rattle.ccsl_edge.specs.World.{State, Told}
use Rattle.ccsl_edge.specs.Calls.{Reads}
use Rattle.ccsl_vcd.specs.declared.fault.VcdFault.{VcdFault}
use Rattle.ccsl_vcd.specs.declared.fault.VcdFault.TheVariants as faults
use Rattle.ccsl_vcd.specs.declared.limits.Limits.{Limits}
use Rattle.ccsl_vcd.specs.Binding.{Wanted}
use Rattle.ccsl_vcd.specs.Reading.{so_far, reading}
use Rattle.ccsl_vcd_read.specs.Heading.{Caused, NotMemory}
use Rattle.ccsl_vcd_read.specs.Reading.{IsCalm, past_header}
use Rattle.ccsl_trace.specs.declared.fault.TraceFault.{TraceFault}
use Rattle.ccsl_trace.specs.declared.fault.TraceFault.TheVariants.{Fault, Refused, Memory}
use Rattle.ccsl_base.specs.declared.limits.TheConstants.{PIECE}
use Rattle.ccsl_trace.specs.Traces.{IsUnread, IsNearHeader, unread}
use Rattle.ccsl_trace.specs.Stepping.{IsNear, RefusesAll, RefusesIt}
use Rattle.ccsl_trace.specs.HeaderEnd.{is_body, binds_none, ends_header}
use Rattle.ccsl_trace.proofs.Binding.{past-stays, body-past, none-before-none}

-- a fault that is no want of memory is told, with its cause
by-cause : (P : TraceFault → Type 0) (f : VcdFault) (cause : Type 0) → (f ≡ faults.Memory → P Memory) → (NotMemory f → cause → P (Refused f)) → Caused f cause
    → P (unread f)
by-cause P faults.Memory cause m r h = m refl
by-cause P (faults.TokenTooLong x) cause m r h = r tt h
by-cause P (faults.BadHeader x) cause m r h = r tt h
by-cause P (faults.TooManyVars x) cause m r h = r tt h
by-cause P (faults.TooDeep x) cause m r h = r tt h
by-cause P (faults.BadTime x) cause m r h = r tt h
by-cause P (faults.BadChange x) cause m r h = r tt h
by-cause P (faults.UnknownCode x) cause m r h = r tt h
by-cause P (faults.UnknownCommand x) cause m r h = r tt h
by-cause P (faults.Gap x) cause m r h = r tt h
by-cause P (faults.Truncated x) cause m r h = r tt h
by-cause P (faults.TooLong x) cause m r h = r tt h
by-cause P (faults.TimeBack x y z) cause m r h = r tt h
by-cause P (faults.Unbound x) cause m r h = r tt h
by-cause P (faults.Ambiguous x) cause m r h = r tt h

-- any other fault is no want of memory
pub not-memory : (f : VcdFault) → NotMemory f → unread f ≡ Memory → ⊥
not-memory faults.Memory n e = n
not-memory (faults.TokenTooLong x) n e = absurd (cc)
not-memory (faults.BadHeader x) n e = absurd (cc)
not-memory (faults.TooManyVars x) n e = absurd (cc)
not-memory (faults.TooDeep x) n e = absurd (cc)
not-memory (faults.BadTime x) n e = absurd (cc)
not-memory (faults.BadChange x) n e = absurd (cc)
not-memory (faults.UnknownCode x) n e = absurd (cc)
not-memory (faults.UnknownCommand x) n e = absurd (cc)
not-memory (faults.Gap x) n e = absurd (cc)
not-memory (faults.Truncated x) n e = absurd (cc)
not-memory (faults.TooLong x) n e = absurd (cc)
not-memory (faults.TimeBack x y z) n e = absurd (cc)
not-memory (faults.Unbound x) n e = absurd (cc)
not-memory (faults.Ambiguous x) n e = absurd (cc)

-- where the clocks are bound the answer is no want of memory
pub never-memory : (A : Type 0) (o : Option (List ℕ)) (f : VcdFault) (t : TraceFault) → t ≡ unread f → ((bound : List ℕ) → o ≡ Some bound → NotMemory f)
    → IfSome o (λ _. ◌≢◌ {A = Result A TraceFault} (Err t) (Err Memory))
never-memory A None f t e h = tt
never-memory A (Some b) f t e h = λ same. not-memory f (h b refl) (sym e ∙ (let k : t ≡ Memory = cc in k))

-- where a front has not ended the header, the bytes behind it reach at most a piece past its end
pub near-of : (wanted : Wanted) (limits : Limits) (a b : List ℕ) → length a ≤ limits.bytes → length b ≤ PIECE → (past_header wanted limits a ≡ true → ⊥) →
    (so_far wanted limits a).fault ≡ None → IsNear wanted limits (a ++ b)
near-of wanted limits a b within few early fine = λ n p. by-place n p (nat_le n (length a)) refl
  where
    not-ended : (n : ℕ) → (v : Bool) → is_body (so_far wanted limits (take n a)).place ≡ v → (v || binds_none (so_far wanted limits (take n a)).fault) ≡ true
        → ⊥
    not-ended n true e q = early (ap (past_header wanted limits) (sym (take-append-drop n a))
        ∙ past-stays wanted limits (take n a) (drop n a) (omega (arith, within, length-take n a)) (rw (take-append-drop n a) within)
        (sym (body-past (so_far wanted limits (take n a)).place) ∙ e))
    not-ended n false e q =
        let none = none-before-none wanted limits (take n a) (drop n a) (omega (arith, within, length-take n a)) (rw (take-append-drop n a) within)
        (ap (λ xs. (so_far wanted limits xs).fault) (take-append-drop n a) ∙ fine) in
        let clash : true ≡ false = sym q ∙ ap binds_none none in absurd (cc)

    by-place : (n : ℕ) → ends_header wanted limits (take n (a ++ b)) ≡ true → (v : Bool) → nat_le n (length a) ≡ v → length (a ++ b) ≤ n + PIECE
    by-place n p true e =
        let le : n ≤ length a = leb-true _ _ e in
        absurd (not-ended n (is_body (so_far wanted limits (take n a)).place) refl (ap (ends_header wanted limits) (sym (take-append-le n a b le)) ∙ p))
    by-place n p false e = let gt = leb-false _ _ e in omega (arith, length-append a b, few)

module _ (f : VcdFault) (wanted : Wanted) (limits : Limits) (a b : List ℕ) (within : length a ≤ limits.bytes) (few : length b ≤ PIECE)
    (calm : IsCalm wanted limits a f)
    (fine : (so_far wanted limits a).fault ≡ None) where
  want : f ≡ faults.Memory → IsNear wanted limits (a ++ b)
  want e = near-of wanted limits a b within few (λ p. subst NotMemory e (calm p)) fine

  -- all that begin with the bytes are refused
  pub refuses-all : Caused f ((more : List ℕ) → (reading wanted limits (a ++ (b ++ more))).fault ≡ Some f) → RefusesAll (unread f) wanted limits (a ++ b)
  refuses-all c =
      by-cause (λ t. RefusesAll t wanted limits (a ++ b)) f ((more : List ℕ) → (reading wanted limits (a ++ (b ++ more))).fault ≡ Some f) want
      (λ n h. (n, λ more. ap (λ xs. (reading wanted limits xs).fault) (append_assoc a b more) ∙ h more)) c

  -- the whole is refused
  pub refuses-it : Caused f ((reading wanted limits (a ++ b)).fault ≡ Some f) → RefusesIt (unread f) wanted limits (a ++ b)
  refuses-it c = by-cause (λ t. RefusesIt t wanted limits (a ++ b)) f ((reading wanted limits (a ++ b)).fault ≡ Some f) want (λ n h. (n, h)) c

module _ (told : Told) (wanted : Wanted) (limits : Limits) (start now : State) (bytes : List ℕ) (reads : Reads told Trace bytes start now) where
  pub near-header : IsNear wanted limits bytes → IsNearHeader told wanted limits start now
  near-header h = record { bytes = bytes; reads = reads; near = h }

  -- such a refusal is that of the trace that is read
  pub unread-all : (t : TraceFault) → RefusesAll t wanted limits bytes → IsUnread told wanted limits start now t
  unread-all Fault h = absurd h
  unread-all (Refused f) h = record {
    bytes = bytes;
    reads = reads;
    decided = ap (λ xs. (reading wanted limits xs).fault) (sym (append-nil bytes)) ∙ h.1 [];
    whole = λ tells. ap (λ xs. (reading wanted limits xs).fault) (reads.taken tells) ∙ h.1 (now.slot_of Trace).left;
    is_cause = h.0;
  }
  unread-all Memory h = near-header h

  pub whole-of : (IsTrue told.left → (now.slot_of Trace).left ≡ []) → IsTrue told.left → (start.slot_of Trace).left ≡ bytes
  whole-of none tells = reads.taken tells ∙ ap (λ xs. bytes ++ xs) (none tells) ∙ append-nil bytes

  pub unread-it : (IsTrue told.left → (now.slot_of Trace).left ≡ []) → (t : TraceFault) → RefusesIt t wanted limits bytes
      → IsUnread told wanted limits start now t
  unread-it none Fault h = absurd h
  unread-it none (Refused f) h = record {
    bytes = bytes;
    reads = reads;
    decided = h.1;
    whole = λ tells. ap (λ xs. (reading wanted limits xs).fault) (whole-of none tells) ∙ h.1;
    is_cause = h.0;
  }
  unread-it none Memory h = near-header h
