-- What the parts of `trial` answer and leave.
use Rattle.std.specs.Prelude.{◌≡◌, ℕ, List, Some, codes}
use Rattle.ccsl_edge.specs.declared.slot.Slot.TheVariants.{Trace}
use Rattle.ccsl_edge.specs.World.{file_at}
use Rattle.ccsl_edge.specs.Memory.{MemoryState}
use Rattle.ccsl_edge.specs.SlotTable.{slot_in}
use Rattle.ccsl_policy.specs.declared.policies.Policy.TheVariants.{Seeded}
use Rattle.ccsl_kernel.specs.Syntax.{System}
use Rattle.ccsl_kernel.specs.Lives.{Step}
use Rattle.ccsl_vcd_write.specs.Text.{vcd_text}
use Rattle.ccsl_simulate.specs.Simulation.{simulation}

abbrev pub drawn_run : System → ℕ → ℕ → List Step
drawn_run K seed steps = simulation K Seeded seed steps

-- the file of the trace holds that of the simulation
abbrev pub KeepsTrace : System → ℕ → ℕ → List (List ℕ × List ℕ) → Type 0
KeepsTrace K seed steps files = file_at files (codes "trace") ≡ Some (vcd_text K (drawn_run K seed steps))

-- and so do the bytes that are left of the trace
pub record HoldsTrace (K : System) (seed steps : ℕ) (world : MemoryState) : Type 0 where
  pub file : KeepsTrace K seed steps world.files
  pub left : (slot_in world.slots Trace).left ≡ vcd_text K (drawn_run K seed steps)
