-- Sets of clocks after a change: a clock taken out or put, and the members that another set lacks.
use Rattle.std.specs.Prelude.{ℕ, List, Bool, not, filter, nat_eq, if◌then◌else◌}
use Rattle.ccsl_base.specs.Clocks.{ticks_in, with_clock}

-- the set without clock x
abbrev pub without_clock : ℕ → List ℕ → List ℕ
without_clock x ys = filter (λ y. not (nat_eq x y)) ys

-- the set with clock x as a member, or without it
abbrev pub put_clock : ℕ → Bool → List ℕ → List ℕ
put_clock x one ys = if one then with_clock x ys else without_clock x ys

-- the members of the one set that are not the other's
abbrev pub difference : List ℕ → List ℕ → List ℕ
difference xs ys = filter (λ x. not (ticks_in x ys)) xs
