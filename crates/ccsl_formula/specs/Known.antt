-- Partial assignments, as the list of the clocks that have a value, each with its value.
use Rattle.std.specs.Prelude.{ℕ, List, [], ◌∷◌, Bool, if◌then◌else◌, map, nat_eq}
use Rattle.ccsl_formula.specs.declared.truth3.Truth3.{Truth3}
use Rattle.ccsl_formula.specs.declared.truth3.Truth3.TheVariants.{Open}
use Rattle.ccsl_formula.specs.Truth.{known_as, Part}
use Rattle.ccsl_formula.specs.Agreement.{is_open}

-- what the pairs say of a clock
abbrev pub known : List (ℕ × Bool) → Part
known [] x = Open
known ((y, b) ∷ ps) x = if nat_eq x y then known_as b else known ps x

-- the clocks that have a value
abbrev pub clocks : List (ℕ × Bool) → List ℕ
clocks ps = map (λ p. p.0) ps

-- p, and t at y, where t may be open
abbrev pub with_truth : Part → ℕ → Truth3 → Part
with_truth p y t x = if nat_eq x y then t else p x

-- q, and p where q is open
abbrev pub joined : Part → Part → Part
joined p q x = if is_open (q x) then p x else q x
