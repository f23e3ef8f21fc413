-- What items weigh, about, and how they are divided.
use Rattle.std.specs.Prelude.{ℕ, zero, suc, ◌+◌, ◌-◌, ◌/◌, ◌&&◌, List, Option, Some, None, length, slice_get, nat_lt, if◌then◌else◌}
use Rattle.ccsl_base.specs.Clocks.{ticks_in}
use Rattle.ccsl_kernel.specs.Syntax.{System}
use Rattle.ccsl_kernel.specs.declared.constraint.Constraint.{Constraint}
use Rattle.ccsl_judge.specs.declared.weights.TheConstants.{WITH_STATES}

-- a constraint between declared clocks weighs 1, and another one as much as what needs the states of definitions
abbrev pub constraint_weight : System → Option Constraint → ℕ
constraint_weight K None = 0
constraint_weight K (Some c) = if nat_lt c.left K.declared && nat_lt c.right K.declared then 1 else WITH_STATES

-- an item: the definition of a clock that is not bound weighs nothing
abbrev pub weight_of : System → List ℕ → ℕ → ℕ
weight_of K bound item =
    if nat_lt item (length K.definitions)
    then (if ticks_in (K.declared + item) bound then WITH_STATES else 0)
    else constraint_weight K (slice_get K.constraints (item - length K.definitions))

-- the items before number n
abbrev pub weight_before : System → List ℕ → ℕ → ℕ
weight_before K bound zero = 0
weight_before K bound (suc n) = weight_before K bound n + weight_of K bound n

-- what a share ends at, where so many are left behind a cut of this weight: it takes its part of what is left of the weight of all
abbrev pub aim : ℕ → ℕ → ℕ → ℕ
aim weight left all = weight + (all - weight) / left
