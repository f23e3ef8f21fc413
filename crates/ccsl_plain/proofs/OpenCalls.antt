-- Opening a call, at a level above 0: the body is opened at the level below.
use Rattle.std.proofs.Common.{◌≡◌, ℕ, zero, suc, ◌-◌, ◌<◌, List, map, Some, ap₂, arith}
use Rattle.ccsl_kernel.specs.declared.expr.Value.{Value}
use Rattle.ccsl_kernel.specs.declared.actual.Actual.{Actual}
use Rattle.ccsl_kernel.specs.Syntax.{ECall, Body, System, body_of, root_or_never}
use Rattle.ccsl_kernel.specs.Actuals.{value_of}
use Rattle.ccsl_plain.specs.Course.{open_with, open_bodies}

pub opened_call : (K : System) (level group member : ℕ) (args : List Value) (ρ : List Actual) (b : Body) → 0 < level → body_of K.groups group member ≡ Some b →
    open_with K (open_bodies K level) (ECall group member args) ρ ≡ open_with K (open_bodies K (level - 1)) b.root (map (value_of K.words ρ) args)
opened_call K zero group member args ρ b l is = let z : ⊥ = omega arith in absurd z
opened_call K (suc level) group member args ρ b l is =
    ap₂ (λ k o. open_with K (open_bodies K k) (root_or_never o) (map (value_of K.words ρ) args)) (let same : level ≡ suc level - 1 = omega arith in same) is
