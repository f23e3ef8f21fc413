-- Where a session begins.
use Rattle.std.specs.Prelude.{◌≡◌, ℕ, List, Ok, IsTrue}
use Rattle.ccsl_edge.specs.declared.slot.Slot.TheVariants.{Spec}
use Rattle.ccsl_edge.specs.World.{State, Told, held}
use Rattle.ccsl_command.specs.declared.command.Command.TheVariants as command
use Rattle.ccsl_command.specs.declared.table.PolicyName.{PolicyName}
use Rattle.ccsl_command.specs.Meaning.{meaning}
use Rattle.ccsl_kernel.specs.Syntax.{System}
use Rattle.ccsl_policy.specs.declared.policies.Policy.{Policy}
use Rattle.ccsl_spec.specs.Specifications.{IsSystemOf}
use Rattle.ccsl_top.specs.Simulate.{named_policy}
use Rattle.ccsl_top.specs.Changes.{Reads}
use Rattle.ccsl_top.specs.Reading.{only}

-- the words ask for a session by a policy and a seed, and their specification was read and is that of a system
pub record Begins (told : Told) (words : List (List ℕ)) (K : System) (policy : Policy) (seed : ℕ) (start now : State) : Type 0 where
  pub spec : List ℕ
  pub name : PolicyName
  pub means : meaning words ≡ Ok (command.Session spec name seed)
  pub policy_is : policy ≡ named_policy name
  pub reads : Reads (only Spec) start now
  pub system : IsTrue told.files → IsTrue told.left → IsSystemOf (held start.files spec) K
