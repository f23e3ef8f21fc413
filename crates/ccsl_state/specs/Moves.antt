-- What a step makes of the region of an expression.
use Rattle.std.specs.Prelude.{◌≡◌, ℕ, List, Bool, Option, Some, None}
use Rattle.ccsl_base.specs.Clocks.{ticks_in}
use Rattle.ccsl_kernel.specs.declared.actual.Actual.{Actual}
use Rattle.ccsl_kernel.specs.Syntax.{ECall, System}
use Rattle.ccsl_kernel.specs.Fitting.{ValuesFit}
use Rattle.ccsl_kernel.specs.Lives.{Step}
use Rattle.ccsl_state.specs.declared.moved.TailCall.{TailCall}
use Rattle.ccsl_state.specs.Tree.{Tree, opening, next, dead_of}
use Rattle.ccsl_state.specs.Standing.{IsCall}

-- which clocks are dead, by the set of them
abbrev pub gone_in : List ℕ → ℕ → Bool
gone_in gone x = ticks_in x gone

-- a tree that is that of a call of group number g at its birth, and of a call that can be made
pub record IsTail (K : System) (g : ℕ) (ρ : List Actual) (t : Tree) (call : TailCall) : Type 0 where
  pub opens : t ≡ opening K (ECall g call.member call.args.now) ρ
  pub is : IsCall K g call.member call.args.now
  pub fits : ValuesFit K.words call.args.now

-- a region holds the next tree, whose death is known; or the next tree is that of a tail call, and the region holds nothing
abbrev pub Outcome : System → Step → (ℕ → Bool) → ℕ → List Actual → Tree → Tree → Bool → Option TailCall → Type 0
Outcome K s gone g ρ old new dead None = (new ≡ next K s gone old) × (dead ≡ dead_of gone new)
Outcome K s gone g ρ old new dead (Some call) = IsTail K g ρ (next K s gone old) call
