-- How a partial assignment is kept in two sets of clocks. No contract outside the crate speaks of it.
use Rattle.std.specs.Prelude.{◌≡◌, ℕ, List, Bool, true, map}
use Rattle.ccsl_base.specs.Clocks.{ticks_in}

-- the clocks of the first set, each true where the second has it
abbrev pub pairs_of : List ℕ → List ℕ → List (ℕ × Bool)
pairs_of valued truth = map (λ x. (x, ticks_in x truth)) valued

-- each member of the first set is one of the second
abbrev pub IsWithin : List ℕ → List ℕ → Type 0
IsWithin xs ys = (x : ℕ) → ticks_in x xs ≡ true → ticks_in x ys ≡ true
