-- Files and slots that hold what is defined for them, after other calls.
use Rattle.std.proofs.Common.{◌≡◌, ℕ, List, sym, ◌∙◌}
use Rattle.ccsl_edge.specs.declared.slot.Slot.{Slot}
use Rattle.ccsl_edge.specs.World.{State, file_at}
use Rattle.ccsl_top.specs.Outcome.{Output}
use Rattle.ccsl_top.specs.Headline.{IsKeptOrWhole, kept, whole, IsFrontOn, untouched, part}

module _ (P Q : Output → Type 0) (into : (o : Output) → P o → Q o) (old old' new new' : State) where
  pub whole-moves : (name : List ℕ) → file_at old'.files name ≡ file_at old.files name → file_at new'.files name ≡ file_at new.files name →
      IsKeptOrWhole P old new name → IsKeptOrWhole Q old' new' name
  whole-moves name before after (kept is) = kept (after ∙ is ∙ sym before)
  whole-moves name before after (whole output is named holds) = whole output (into output is) named (after ∙ holds)

  pub front-moves : (slot : Slot) → (old'.slot_of slot).written ≡ (old.slot_of slot).written → (new'.slot_of slot).written ≡ (new.slot_of slot).written →
      IsFrontOn P old new slot → IsFrontOn Q old' new' slot
  front-moves slot before after (untouched is) = untouched (after ∙ is ∙ sym before)
  front-moves slot before after (part output is through count is_front) = part output (into output is) through count (after ∙ is_front)
