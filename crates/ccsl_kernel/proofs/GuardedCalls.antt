-- Systems in which the calls of the bodies and of the definitions are as they must be.
use Rattle.std.specs.Prelude.{◌≡◌, ℕ, List, [], ◌∷◌}
use Rattle.ccsl_kernel.specs.Syntax.{Expression, System, root_of}
use Rattle.ccsl_kernel.specs.declared.position.Position.TheVariants.{Inner, Tail, Guarded}
use Rattle.ccsl_kernel.specs.Guarded.{Allowed, IsAllowed}

-- each member of a group, whose root is a tail position
abbrev pub AreGuarded : System → Type 0
AreGuarded K = (g m : ℕ) → Allowed g Tail (root_of K g m)

abbrev pub AreAllowed : System → List Expression → Type 0
AreAllowed K [] = Unit {0}
AreAllowed K (e ∷ es) = IsAllowed K e × AreAllowed K es

-- calls of the bodies and of the definitions are as they must be
pub record IsGuarded (K : System) : Type 0 where
  pub bodies : AreGuarded K
  pub definitions : AreAllowed K K.definitions

pub tail_guarded : Tail ≡ Guarded → ⊥
tail_guarded e = cc

pub inner_guarded : Inner ≡ Guarded → ⊥
inner_guarded e = cc
