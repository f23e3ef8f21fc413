-- The real files allow every name.
use Rattle.std.proofs.Common.{ℕ, List, [], ◌∷◌}
use Rattle.std.specs.Prelude.{⊤}
use Rattle.ccsl_edge.specs.declared.slot.Slot.{Slot}
use Rattle.ccsl_command.specs.Opened.{Opened}
use Rattle.ccsl_top.specs.Opening.{AreAllowed}

abbrev pub every_name : Slot → List ℕ → Type 0
every_name slot name = ⊤

pub all-allowed : (files : List Opened) → AreAllowed every_name files
all-allowed [] = record {}
all-allowed (f ∷ fs) = (record {}, all-allowed fs)
