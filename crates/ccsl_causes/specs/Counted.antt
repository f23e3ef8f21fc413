-- Counts of ticks.
use Rattle.std.specs.Prelude.{ℕ, ◌+◌, ◌^◌, ◌-◌, min, List, [], ◌∷◌, Bool, if◌then◌else◌}
use Rattle.ccsl_base.specs.Clocks.{ticks_in}
use Rattle.ccsl_kernel.specs.Lives.{Step}

-- one more where the clock ticks; at the last value a count stays
abbrev pub counted : Bool → ℕ → ℕ
counted tick n = if tick then min (n + 1) (2 ^ 64 - 1) else n

-- the count of a clock behind some steps, before which it was n
abbrev pub counted_over : ℕ → List Step → ℕ → ℕ
counted_over x [] n = n
counted_over x (s ∷ steps) n = counted_over x steps (counted (ticks_in x s) n)
