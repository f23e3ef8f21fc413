-- Open truth values, and the assignments that agree with a partial one.
use Rattle.std.specs.Prelude.{ℕ, Bool, true, false, ◌≡◌, ◌⊎◌}
use Rattle.ccsl_formula.specs.declared.truth3.Truth3.{Truth3}
use Rattle.ccsl_formula.specs.declared.truth3.Truth3.TheVariants.{Open}
use Rattle.ccsl_formula.specs.Truth.{known_as, Part, Assignment}

abbrev pub is_open : Truth3 → Bool
is_open Open = true
is_open _ = false

-- b is not refused by t
abbrev pub Fits : Truth3 → Bool → Type 0
Fits t b = (t ≡ Open) ⊎ (t ≡ known_as b)

-- an assignment has each value that is known
pub record Agrees (v : Assignment) (p : Part) : Type 0 where
  pub fits : (x : ℕ) → Fits (p x) (v x)
