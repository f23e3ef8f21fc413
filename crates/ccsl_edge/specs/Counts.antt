-- Counts of faults that stay, or do not fall.
use Rattle.std.specs.Prelude.{◌≡◌, ◌≤◌}
use Rattle.ccsl_edge.specs.declared.slot.Slot.{Slot}
use Rattle.ccsl_edge.specs.World.{State}

-- every count of faults is as it was
pub record SameCounts (old new : State) : Type 0 where
  pub same : (slot : Slot) → (new.slot_of slot).faults ≡ (old.slot_of slot).faults

-- no count of faults fell
pub record NoCountFalls (old new : State) : Type 0 where
  pub rises : (slot : Slot) → (old.slot_of slot).faults ≤ (new.slot_of slot).faults
