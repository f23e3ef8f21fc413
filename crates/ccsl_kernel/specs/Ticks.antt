-- Words on ticks. A list of ticks says of each step from a birth on, the first one first, whether an expression ticked.
use Rattle.std.specs.Prelude.{ℕ, suc, List, [], ◌∷◌, Bool, false, not, ◌&&◌, ◌||◌, nat_eq, nat_lt, if◌then◌else◌}

-- how many ticks
abbrev pub count : List Bool → ℕ
count [] = 0
count (t ∷ ts) = if t then suc (count ts) else count ts

-- whether there is a tick
abbrev pub ever : List Bool → Bool
ever [] = false
ever (t ∷ ts) = t || ever ts

-- whether a ticked at some step and d at no later one
abbrev pub waits : List Bool → List Bool → Bool
waits [] ds = false
waits (t ∷ ts) [] = false
waits (t ∷ ts) (d ∷ ds) = (t && not (ever ds)) || waits ts ds

-- whether a ticked at some step, and d neither at it nor later
abbrev pub waits_weakly : List Bool → List Bool → Bool
waits_weakly [] ds = false
waits_weakly (t ∷ ts) [] = false
waits_weakly (t ∷ ts) (d ∷ ds) = (t && not (ever (d ∷ ds))) || waits_weakly ts ds

-- whether a ticked at some step, and d just k times after it
abbrev pub waits_since : ℕ → List Bool → List Bool → Bool
waits_since k [] ds = false
waits_since k (t ∷ ts) [] = false
waits_since k (t ∷ ts) (d ∷ ds) = (t && nat_eq (count ds) k) || waits_since k ts ds

-- whether a ticked at some step, and d fewer than m times after it
abbrev pub waits_below : ℕ → List Bool → List Bool → Bool
waits_below m [] ds = false
waits_below m (t ∷ ts) [] = false
waits_below m (t ∷ ts) (d ∷ ds) = (t && nat_lt (count ds) m) || waits_below m ts ds
