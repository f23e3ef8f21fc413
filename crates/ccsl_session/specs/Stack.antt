-- What a stack of declared sets keeps beside them: the states behind all sets, and copies of those behind some.
use Rattle.std.specs.Prelude.{◌≡◌, ℕ, ◌+◌, ◌*◌, ◌/◌, ◌≤◌, List, length, take, Some, slice_get}
use Rattle.ccsl_kernel.specs.Syntax.{System}
use Rattle.ccsl_kernel.specs.Lives.{Step}
use Rattle.ccsl_kernel.specs.Accepted.{IsAccepted}
use Rattle.ccsl_kernel.specs.Runs.{completed}
use Rattle.ccsl_state.specs.Held.{Held, StandsFor}
use Rattle.ccsl_base.specs.declared.limits.TheConstants.{MAX_SESSION_STEPS}
use Rattle.ccsl_session.specs.declared.stack.TheConstants.{STRIDE}
use Rattle.ccsl_session.specs.declared.stack.Stack.{Stack}

-- the states of a system behind some declared sets
pub record AreBehind (K : System) (R : List Step) (h : Held) : Type 0 where
  pub system : h.system ≡ K
  pub stands : StandsFor h (completed K R)

-- the copies are those of the states behind no set, and behind each further stride of sets
pub record AreCopies (K : System) (R : List Step) (copies : List Held) : Type 0 where
  pub count : length copies ≡ length R / STRIDE + 1
  pub each : (k : ℕ) (h : Held) → slice_get copies k ≡ Some h → AreBehind K (take (k * STRIDE) R) h

pub record Stands (stack : Stack) : Type 0 where
  pub accepted : IsAccepted stack.system.now
  pub few : length stack.sets.items ≤ MAX_SESSION_STEPS
  pub states : AreBehind stack.system.now stack.sets.items stack.states
  pub copies : AreCopies stack.system.now stack.sets.items stack.copies.items
