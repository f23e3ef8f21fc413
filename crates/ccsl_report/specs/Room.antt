-- How many bytes the longest report of a judge may have.
use Rattle.std.specs.Prelude.{ℕ, ◌+◌, ◌-◌, ◌^◌, List, [], ◌∷◌, length, max, min, map}
use Rattle.ccsl_kernel.specs.Syntax.{System}

abbrev pub longest : List (List ℕ) → ℕ
longest [] = 0
longest (text ∷ texts) = max (length text) (longest texts)

-- the fixed words and three numbers of at most 20 digits, and the name of a clock or the label of a constraint
abbrev pub full_room : System → ℕ
full_room K = 128 + max (longest K.names) (longest (map (λ c. c.label) K.constraints))

-- as the program counts it; no text is so long that this is less
abbrev pub room : System → ℕ
room K = min (full_room K) (2 ^ 64 - 1)
