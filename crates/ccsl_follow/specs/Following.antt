-- The states of the definitions that some clocks lead to, and what of the last step is declared or followed.
use Rattle.std.specs.Prelude.{◌≡◌, ℕ, List, [], true, Option, Some, None}
use Rattle.ccsl_base.specs.Clocks.{are_below}
use Rattle.ccsl_kernel.specs.Syntax.{System}
use Rattle.ccsl_kernel.specs.Lives.{Step}
use Rattle.ccsl_state.specs.Part.{HeldPart}

pub record Following : Type 0 where
  pub part : HeldPart
  pub step : Step

-- states that follow clocks of a system, or none, where these clocks are all that is followed
abbrev pub held_part : System → List ℕ → Option HeldPart → HeldPart
held_part K clocks None = record { system = K; followed = clocks; row = [] }
held_part K clocks (Some p) = p

-- states of the system, or none, where these clocks are declared
abbrev pub Follows : System → List ℕ → Option HeldPart → Type 0
Follows K clocks None = are_below K.declared clocks ≡ true
Follows K clocks (Some p) = p.system ≡ K
