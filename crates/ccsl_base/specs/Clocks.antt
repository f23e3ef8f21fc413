-- Sets of clocks, as the ascending list of their members.
use Rattle.std.specs.Prelude.{ℕ, List, [], ◌∷◌, Bool, true, false, ◌||◌, ◌&&◌, nat_eq, nat_lt, if◌then◌else◌}
use Rattle.std.specs.List.{list_all}

-- whether clock x is a member: whether it ticks in a step
abbrev pub ticks_in : ℕ → List ℕ → Bool
ticks_in x [] = false
ticks_in x (y ∷ ys) = nat_eq x y || ticks_in x ys

-- the set with clock x as a member, at its place
abbrev pub with_clock : ℕ → List ℕ → List ℕ
with_clock x [] = x ∷ []
with_clock x (y ∷ ys) = if nat_lt x y then x ∷ (y ∷ ys) else if nat_eq x y then y ∷ ys else y ∷ with_clock x ys

-- each member is less than all behind it
abbrev pub is_ascending : List ℕ → Bool
is_ascending [] = true
is_ascending (x ∷ xs) = list_all (nat_lt x) xs && is_ascending xs

-- each member is below a bound
abbrev pub are_below : ℕ → List ℕ → Bool
are_below bound xs = list_all (λ x. nat_lt x bound) xs
