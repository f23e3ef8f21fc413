-- Words of a body.
use Rattle.std.proofs.Common.{◌≡◌, ℕ, List, ◌∷◌, Some, ap}
use Rattle.ccsl_vcd.specs.Words.{number, time, time_of, word_of}

-- a time, by its digits
pub time-word : (text : List ℕ) (value : ℕ) → number 18446744073709551615 text ≡ Some value → word_of (35 ∷ text) ≡ time value
unfolding word_of
time-word text value e = ap time_of e
