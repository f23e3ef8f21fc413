-- The clocks in scope: members of groups name none, and the definition of clock x names lower ones alone.
use Rattle.std.specs.Prelude.{◌≡◌, ℕ, ◌<◌, Some}
use Rattle.ccsl_kernel.specs.Syntax.{Expression, System, root_of, definition_of}
use Rattle.ccsl_kernel.specs.Within.{NamesWithin}

-- an expression names clocks below X only
abbrev pub NamesBelow : ℕ → Expression → Type 0
NamesBelow X = NamesWithin (λ x. x < X)

-- members of groups name parameters and no clock, and the definition of clock x lower clocks only
pub record IsScoped (K : System) : Type 0 where
  pub bodies : (g m : ℕ) → NamesBelow 0 (root_of K g m)
  pub definitions : (x : ℕ) (e : Expression) → definition_of K x ≡ Some e → NamesBelow x e
