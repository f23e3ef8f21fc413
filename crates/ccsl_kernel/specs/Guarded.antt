-- Which calls an expression may make: of members of earlier groups, and of its own group in guarded tail positions alone; and by how much
-- `delayed` may lag.
use Rattle.std.specs.Prelude.{◌≡◌, ℕ, ◌<◌, ◌≤◌, ◌⊎◌, length}
use Rattle.ccsl_base.specs.declared.limits.TheConstants.{MAX_DELAY}
pub use Rattle.ccsl_kernel.specs.declared.position.Position.{Position}
pub use Rattle.ccsl_kernel.specs.declared.position.Position.TheVariants.{Inner, Tail, Guarded}
use Rattle.ccsl_kernel.specs.declared.expr.ExprOp.TheVariants as op
use Rattle.ccsl_kernel.specs.Syntax.{ExprOp, Expression, EName, ECall, ENever, EBinary, EDelay, EAwait, EFilter, EDelayed, EIf, System}
use Rattle.ccsl_kernel.specs.Positions.{guarded}

-- the place of an operator's right operand
abbrev pub right_of : ExprOp → Position → Position
right_of op.Then p = guarded p
right_of _ p = Inner

-- e may stand at the place p of a member of group number g
abbrev pub Allowed : ℕ → Position → Expression → Type 0
Allowed g p (EName x) = Unit {0}
Allowed g p (ECall group member args) = (group < g) ⊎ ((group ≡ g) × (p ≡ Guarded))
Allowed g p ENever = Unit {0}
Allowed g p (EBinary op a d) = Allowed g Inner a × Allowed g (right_of op p) d
Allowed g p (EDelay a m) = Allowed g Inner a
Allowed g p (EAwait a m) = Allowed g Inner a
Allowed g p (EFilter a w) = Allowed g Inner a
Allowed g p (EDelayed a m d) = (1 ≤ m) × (m ≤ MAX_DELAY) × Allowed g Inner a × Allowed g Inner d
Allowed g p (EIf q a d) = Allowed g p a × Allowed g p d

-- an expression outside of groups
abbrev pub IsAllowed : System → Expression → Type 0
IsAllowed K e = Allowed (length K.groups) Inner e
