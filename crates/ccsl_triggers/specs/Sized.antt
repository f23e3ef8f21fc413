-- The letters of a value of a variable: IEEE 1364-2005, clause 18.2.1.
use Rattle.std.specs.Prelude.{ℕ, ◌-◌, ◌==◌, List, [], ◌∷◌, ◌++◌, length, drop, map, replicate, bit_or, if◌then◌else◌}

-- a letter in lower case
abbrev pub lower : ℕ → ℕ
lower b = bit_or b 32

-- what extends a value on the left: 0 in front of 0 and 1, else its first letter
abbrev pub filler : List ℕ → ℕ
filler [] = 48
filler (b ∷ bs) = if b == 49 then 48 else b

-- Letters of a size, in lower case: extended on the left where there are fewer, and the last ones where there are more.
abbrev pub sized : ℕ → List ℕ → List ℕ
sized size letters = map lower (replicate (size - length letters) (filler letters) ++ drop (length letters - size) letters)
