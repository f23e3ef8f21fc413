-- What stays of a world while the program runs.
use Rattle.std.proofs.Common.{◌≡◌, ◌≢◌, ℕ, ◌≤◌, List, Bool, true, false, Result, Ok, Err, IsTrue, refl, sym, ap, ◌∙◌, subst, arith}
use Rattle.ccsl_edge.specs.declared.slot.Slot.{Slot}
use Rattle.ccsl_edge.specs.declared.slot.Slot.TheVariants.{Input, Report, TraceOut, CertOut}
use Rattle.ccsl_edge.specs.World.{State, SlotState, Told, file_at}
use Rattle.ccsl_edge.specs.Calls.{ChangesOnly}
use Rattle.ccsl_command.specs.declared.command.Command.{Command}
use Rattle.ccsl_command.specs.declared.command.Command.TheVariants.{Check, Simulate, Judge, Certify, Trial, Periodic, Explain, Session}
use Rattle.ccsl_command.specs.declared.usage.Usage.{Usage}
use Rattle.ccsl_command.specs.Meaning.{meaning}
use Rattle.ccsl_command.specs.Opened.{Opened, files_meant, files_opened}
use Rattle.ccsl_top.specs.Outcome.{Output}
use Rattle.ccsl_top.specs.Opening.{opens, writes, is_slot, is_output}
use Rattle.ccsl_top.specs.Headline.{IsTold, IsDefinedOutput, IsKeptOrWhole, IsFrontOn}
use Rattle.ccsl_top.specs.Answered.{AreOpened, Leaves}
use Rattle.ccsl_top.proofs.Slots.{is_slot-same, is_slot-differs, output-differs}
use Rattle.ccsl_top.proofs.Effects.{Changed, by-test}
use Rattle.ccsl_top.proofs.Outputs.{whole-moves, front-moves}
use Rattle.std.proofs.lemmas.Bool.{both_ways}

-- neither standard input nor the report is a file that is opened
abbrev OpensNeither : List Opened → Type 0
OpensNeither opened = (opens opened Input ≡ false) × (opens opened Report ≡ false)

meant-neither : (meant : Result Command Usage) → OpensNeither (files_meant meant)
meant-neither (Err fault) = (refl, refl)
meant-neither (Ok (Check spec)) = (refl, refl)
meant-neither (Ok (Simulate spec policy seed steps trace cert)) = (refl, refl)
meant-neither (Ok (Judge spec trace workers)) = (refl, refl)
meant-neither (Ok (Certify spec trace cert)) = (refl, refl)
meant-neither (Ok (Trial clocks steps seed workers)) = (refl, refl)
meant-neither (Ok (Periodic left right relation)) = (refl, refl)
meant-neither (Ok (Explain spec trace cert)) = (refl, refl)
meant-neither (Ok (Session spec policy seed)) = (refl, refl)

opens-input : (words : List (List ℕ)) → opens (files_opened words) Input ≡ false
opens-input words = (meant-neither (meaning words)).0

pub opens-report : (words : List (List ℕ)) → opens (files_opened words) Report ≡ false
opens-report words = (meant-neither (meaning words)).1

-- what is not opened is not used
pub unused-of : (words : List (List ℕ)) (used : Slot → Bool) → AreOpened words used → (slot : Slot) → opens (files_opened words) slot ≡ false
    → used slot ≡ false
unused-of words used opened slot closed =
    by-test (used slot) (λ yes. absurd (both_ways (opens (files_opened words) slot) closed (opened slot yes))) (λ no. no)

-- what stays, the report's slot aside
pub record Frame (told : Told) (words : List (List ℕ)) (used : Slot → Bool) (old new : State) : Type 0 where
  pub unwritten : used TraceOut ≡ false → used CertOut ≡ false → (name : List ℕ) → file_at new.files name ≡ file_at old.files name
  pub files : IsTrue told.files → IsTrue told.written → (name : List ℕ) → writes (files_opened words) name ≡ false →
      file_at new.files name ≡ file_at old.files name
  pub slots : (slot : Slot) → slot ≢ Report → is_output slot ≡ false → Changed (old.slot_of slot) (new.slot_of slot)
  pub kept : (slot : Slot) → slot ≢ Report → used slot ≡ false → new.slot_of slot ≡ old.slot_of slot
  pub rises : (slot : Slot) → (old.slot_of slot).faults ≤ (new.slot_of slot).faults
  pub input : new.slot_of Input ≡ old.slot_of Input
  pub report : new.slot_of Report ≡ record (old.slot_of Report) { written = (new.slot_of Report).written; faults = (new.slot_of Report).faults }
  pub whole : IsTold told words → IsTrue told.written → (name : List ℕ) → IsKeptOrWhole (IsDefinedOutput words old.files) old new name
  pub fronts : IsTold told words → IsTrue told.written → (slot : Slot) → is_output slot ≡ true →
      IsFrontOn (IsDefinedOutput words old.files) old new slot

module _ (told : Told) (words : List (List ℕ)) (used : Slot → Bool) (old mid : State) (leaves : Leaves told words used old mid) where
  pub report-same : mid.slot_of Report ≡ old.slot_of Report
  report-same = leaves.stays.others Report (unused-of words used leaves.opened Report (opens-report words))

  input-same : mid.slot_of Input ≡ old.slot_of Input
  input-same = leaves.stays.others Input (unused-of words used leaves.opened Input (opens-input words))

  pub frame-still : Frame told words used old mid
  frame-still = record {
    unwritten = λ a b name. ap (λ fs. file_at fs name) (leaves.stays.unwritten a b);
    files = leaves.stays.files;
    slots = λ slot _. leaves.stays.inputs slot;
    kept = λ slot _ no. leaves.stays.others slot no;
    rises = leaves.stays.rises;
    input = input-same;
    report = rw report-same refl;
    whole = leaves.whole;
    fronts = leaves.fronts;
  }

  module _ (new : State) (alone : ChangesOnly Report mid new)
      (here : new.slot_of Report ≡ record (mid.slot_of Report) { written = (new.slot_of Report).written; faults = (new.slot_of Report).faults })
      (rise : (mid.slot_of Report).faults ≤ (new.slot_of Report).faults) where
    elsewhere : (slot : Slot) → slot ≢ Report → new.slot_of slot ≡ mid.slot_of slot
    elsewhere slot n = alone.others slot n

    same-file : (name : List ℕ) → file_at new.files name ≡ file_at mid.files name
    same-file name = ap (λ fs. file_at fs name) alone.files

    pub frame-reported : Frame told words used old new
    frame-reported = record {
      unwritten = λ a b name. same-file name ∙ ap (λ fs. file_at fs name) (leaves.stays.unwritten a b);
      files = λ f w name n. same-file name ∙ leaves.stays.files f w name n;
      slots = λ slot n out. subst (Changed (old.slot_of slot)) (sym (elsewhere slot n)) (leaves.stays.inputs slot out);
      kept = λ slot n no. elsewhere slot n ∙ leaves.stays.others slot no;
      rises = λ slot. by-test (is_slot Report slot)
          (λ yes. subst (λ s. (old.slot_of s).faults ≤ (new.slot_of s).faults) (is_slot-same Report slot yes)
          (let e = ap (λ s. s.faults) report-same in omega (arith, e, rise)))
          (λ no. let e = ap (λ s. s.faults) (elsewhere slot (is_slot-differs Report slot no)) in
          let r = leaves.stays.rises slot in omega (arith, e, r));
      input = elsewhere Input (is_slot-differs Report Input refl) ∙ input-same;
      report = here ∙ ap (λ (x : SlotState). let S : SlotState =
          record x { written = (new.slot_of Report).written; faults = (new.slot_of Report).faults } in S) report-same;
      whole = λ t w name. let P : Output → Type 0 = IsDefinedOutput words old.files in
          whole-moves P P (λ o p. p) old old mid new name refl (same-file name) (leaves.whole t w name);
      fronts = λ t w slot out. let P : Output → Type 0 = IsDefinedOutput words old.files in
          front-moves P P (λ o p. p) old old mid new slot refl (ap (λ s. s.written) (elsewhere slot (output-differs Report slot refl out)))
          (leaves.fronts t w slot out);
    }
