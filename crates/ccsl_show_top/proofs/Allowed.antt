-- A world that allows every name allows the files that words open.
use Rattle.std.proofs.Common.{ℕ, List, [], ◌∷◌}
use Rattle.ccsl_edge.specs.declared.slot.Slot.{Slot}
use Rattle.ccsl_command.specs.Opened.{Opened}
use Rattle.ccsl_top.specs.Opening.{AreAllowed}

pub all-allowed : (allows : Slot → List ℕ → Type 0) → ((slot : Slot) (name : List ℕ) → allows slot name) → (files : List Opened) → AreAllowed allows files
all-allowed allows all [] = record {}
all-allowed allows all (f ∷ fs) = (all f.slot f.name, all-allowed allows all fs)
