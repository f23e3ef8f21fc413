-- What the choice asks of the words.
use Rattle.std.proofs.Common.{◌≡◌, ℕ, zero, suc, ◌+◌, [], ◌∷◌, length, arith, length-append}
use Rattle.ccsl_policy.specs.Words.{word_at, words_from}

-- there are as many words as are asked for
pub words-length : (seed j n : ℕ) → length (words_from seed j n) ≡ n
words-length seed j zero = omega arith
words-length seed j (suc n) = omega (arith, length-append (words_from seed j n) (word_at seed (j + n) ∷ []), words-length seed j n)
