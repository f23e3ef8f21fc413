-- Which expressions have a region of their own, and what is owed for it.
use Rattle.std.specs.Prelude.{◌≡◌, ℕ, ◌+◌, ◌<◌, ◌≤◌, List, Bool, true, false, length, take, slice_index, nat_le, Some, if◌then◌else◌}
use Rattle.ccsl_words.specs.Word.{BinaryWord}
use Rattle.ccsl_kernel.specs.declared.expr.ExprOp.{ExprOp}
use Rattle.ccsl_kernel.specs.declared.expr.ExprOp.TheVariants as op
use Rattle.ccsl_kernel.specs.declared.expr.Value.{Value}
use Rattle.ccsl_kernel.specs.declared.actual.Actual.{Actual}
use Rattle.ccsl_kernel.specs.Syntax.{Expression, EName, ECall, ENever, EBinary, EDelay, EAwait, EFilter, EDelayed, EIf, Body, System, body_of}
use Rattle.ccsl_kernel.specs.Actuals.{test_of}
use Rattle.ccsl_kernel.specs.Cells.{saturated, cells_in}
use Rattle.ccsl_base.specs.declared.limits.TheConstants.{MAX_PARAMS, MAX_DELAY}

abbrev pub is_then : ExprOp → Bool
is_then op.Then = true
is_then _ = false

-- a call of a member that is there, with so many arguments as it has parameters, and these are few
abbrev pub IsCall : System → ℕ → ℕ → List Value → Type 0
IsCall K group member args = (b : Body) × (body_of K.groups group member ≡ Some b) × (length args ≡ length b.params) × (length b.params ≤ MAX_PARAMS)

-- a group that may be called: an earlier one, and outside of operators the own one
abbrev pub MayCall : ℕ → Bool → ℕ → Type 0
MayCall g true group = group < g
MayCall g false group = group ≤ g

-- the place of the right operand
abbrev pub right_place : Bool → Bool → Bool
right_place true inner = inner
right_place false inner = true

-- an expression in a body of group number g, inside of an operator or not
abbrev pub Stands : System → ℕ → Bool → Expression → Type 0
Stands K g inner (EName x) = Unit {0}
Stands K g inner (ECall group member args) = MayCall g inner group × IsCall K group member args
Stands K g inner ENever = Unit {0}
Stands K g inner (EBinary o a d) = Stands K g true a × Stands K g (right_place (is_then o) inner) d
Stands K g inner (EDelay a m) = Stands K g true a
Stands K g inner (EAwait a m) = Stands K g true a
Stands K g inner (EFilter a w) = Stands K g true a
Stands K g inner (EDelayed a m d) = (1 ≤ m) × (m ≤ MAX_DELAY) × Stands K g true a × Stands K g true d
Stands K g inner (EIf q a d) = Stands K g inner a × Stands K g inner d

-- whether an expression comes to a call of the own group by its choices
abbrev pub is_own : List BinaryWord → ℕ → Expression → List Actual → Bool
is_own words g (EName x) ρ = false
is_own words g (ECall group member args) ρ = nat_le g group
is_own words g ENever ρ = false
is_own words g (EBinary o a d) ρ = false
is_own words g (EDelay a m) ρ = false
is_own words g (EAwait a m) ρ = false
is_own words g (EFilter a w) ρ = false
is_own words g (EDelayed a m d) ρ = false
is_own words g (EIf q a d) ρ = if test_of words q ρ then is_own words g a ρ else is_own words g d ρ

-- the cells of the region of a call are enough for each member, or more than there are
abbrev pub IsEnough : System → List ℕ → Type 0
IsEnough K earlier = (g : ℕ) → g < length earlier →
    (1 ≤ slice_index earlier g) × ((m : ℕ) (b : Body) → body_of K.groups g m ≡ Some b
    → saturated (1 + length b.params + cells_in (take g earlier) b.root) ≤ slice_index earlier g)
