-- What stands once the specification that a command names was read.
use Rattle.std.specs.Prelude.{◌≡◌, ℕ, List, Option, Some, None, IsTrue}
use Rattle.ccsl_edge.specs.declared.slot.Slot.TheVariants.{Spec}
use Rattle.ccsl_edge.specs.World.{State, Told, held}
use Rattle.ccsl_command.specs.declared.command.Command.{Command}
use Rattle.ccsl_command.specs.declared.command.Command.TheVariants as command
use Rattle.ccsl_kernel.specs.Syntax.{System}
use Rattle.ccsl_spec.specs.Specifications.{IsSystemOf}
use Rattle.ccsl_top.specs.Changes.{Reads}
use Rattle.ccsl_top.specs.Reading.{only}

-- the specification that a command names
abbrev pub spec_of : Command → Option (List ℕ)
spec_of (command.Check spec) = Some spec
spec_of (command.Simulate spec policy seed steps trace cert) = Some spec
spec_of (command.Judge spec trace workers) = Some spec
spec_of (command.Certify spec trace cert) = Some spec
spec_of (command.Explain spec trace cert) = Some spec
spec_of (command.Session spec policy seed) = Some spec
spec_of other = None

-- it alone was read, and is that of a system
pub record IsSpecified (told : Told) (c : Command) (K : System) (start now : State) : Type 0 where
  pub reads : Reads (only Spec) start now
  pub system : (spec : List ℕ) → spec_of c ≡ Some spec → IsTrue told.files → IsTrue told.left → IsSystemOf (held start.files spec) K
