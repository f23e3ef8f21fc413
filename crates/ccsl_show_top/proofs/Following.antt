-- Reading, and then a report that goes on.
use Rattle.std.proofs.Common.{◌≡◌, ◌≢◌, ℕ, List, ◌++◌, take, true, false, Result, Ok, Err, refl, sym, ap, ◌∙◌}
use Rattle.std.proofs.Common.{arith}
use Rattle.std.specs.Prelude.{OnOk}
use Rattle.std.specs.Result.{is_ok}
use Rattle.ccsl_edge.specs.declared.slot.Slot.{Slot}
use Rattle.ccsl_edge.specs.declared.slot.Slot.TheVariants.{Report}
use Rattle.ccsl_edge.specs.World.{State, SlotState, Told}
use Rattle.ccsl_edge.specs.Calls.{Adds, AddsFront}
use Rattle.ccsl_edge.proofs.Counts.{Adds-SameCounts, AddsFront-NoCountFalls, SameCounts-NoCountFalls}
use Rattle.ccsl_follow.specs.OnlyReads.{OnlyReads, is_file_read}
use Rattle.ccsl_show_top.specs.Follows.{Follows}

is-other : (slot : Slot) → is_file_read slot ≡ true → slot ≢ Report
is-other slot reads same = let clash : true ≡ false = sym reads ∙ ap is_file_read same in absurd (cc)

slot-read : (a b : SlotState) → b ≡ a → b ≡ record a { left = b.left; faults = b.faults }
slot-read a b e = e ∙ ap (λ (x : SlotState). record a { left = x.left; faults = x.faults }) (sym e)

module _ (told : Told) (bytes : List ℕ) (s t : State) where
  pub follows-added : Adds told Report bytes s t → Follows told s t
  follows-added p =
      let same : (t.slot_of Report).faults ≡ (s.slot_of Report).faults = ap (λ (x : SlotState). x.faults) p.here in
      record {
        report = λ tells. (bytes, p.end tells);
        reported = p.here ∙ ap (λ n. record (s.slot_of Report) { written = (t.slot_of Report).written; faults = n }) (sym same);
        files = p.only.files;
        others = λ slot apart no. p.only.others slot apart;
        read = λ slot reads. slot-read _ _ (p.only.others slot (is-other slot reads));
        rises = (SameCounts-NoCountFalls s t (Adds-SameCounts told Report bytes s t p)).rises;
      }

  pub follows-front : AddsFront told Report bytes s t → Follows told s t
  follows-front p = record {
    report = λ tells. (take p.count bytes, p.front tells);
    reported = p.here;
    files = p.only.files;
    others = λ slot apart no. p.only.others slot apart;
    read = λ slot reads. slot-read _ _ (p.only.others slot (is-other slot reads));
    rises = (AddsFront-NoCountFalls told Report bytes s t p).rises;
  }

pub follows-reads : (told : Told) (s t u : State) → OnlyReads s t → Follows told t u → Follows told s u
follows-reads told s t u p q =
    let stays : t.slot_of Report ≡ s.slot_of Report = p.others Report refl in
    record {
      report = λ tells.
          let w = q.report tells in
          (w.0, w.1 ∙ ap (λ (x : SlotState). x.written ++ w.0) stays);
      reported = q.reported ∙ ap (λ (x : SlotState). record x { written = (u.slot_of Report).written; faults = (u.slot_of Report).faults }) stays;
      files = q.files ∙ p.files;
      others = λ slot apart no. q.others slot apart no ∙ p.others slot no;
      read = λ slot reads.
          q.read slot reads
          ∙ ap (λ (x : SlotState). record x { left = (u.slot_of slot).left; faults = (u.slot_of slot).faults }) (p.here slot);
      rises = λ slot. omega (arith, p.rises slot, q.rises slot);
    }

pub on-ok : {T E : Type 0} → (r : Result T E) (P Q : Type 0) → (P → Q) → OnOk r P → OnOk r Q
on-ok (Ok x) P Q f h = f h
on-ok (Err e) P Q f h = h

pub when-ok : {T E : Type 0} → (r : Result T E) (P : Type 0) → OnOk r P → is_ok r ≡ true → P
when-ok (Ok x) P h is = h
when-ok (Err e) P h is = absurd (cc)
