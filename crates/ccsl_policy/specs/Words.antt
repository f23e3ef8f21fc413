-- The words of a seed: those of the generator PCG XSH RR 64/32 (M. E. O'Neill, PCG: A Family of Simple Fast Space-Efficient Statistically Good
-- Algorithms for Random Number Generation, 2014) that the crate rand_pcg calls Lcg64Xsh32, on stream 54.
use Rattle.std.specs.Prelude.{ℕ, zero, suc, List, [], ◌∷◌, ◌++◌, ◌+◌}
use Rattle.rand_pcg.specs.Lcg.{Lcg, advance, started, increment_of}
use Rattle.rand_pcg.specs.Pcg.{multiplier_64, output_xsh_rr}

-- the generator of a seed
abbrev pub seeded : ℕ → Lcg
seeded seed = started 64 multiplier_64 seed (increment_of 64 54)

-- word number j of a seed, from 0: it is taken from the state before the step
abbrev pub word_at : ℕ → ℕ → ℕ
word_at seed j = output_xsh_rr (advance 64 multiplier_64 j (seeded seed)).state

-- so many words from number j on
abbrev pub words_from : ℕ → ℕ → ℕ → List ℕ
words_from seed j zero = []
words_from seed j (suc n) = words_from seed j n ++ word_at seed (j + n) ∷ []
