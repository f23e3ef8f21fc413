-- How the words of a step order the declared clocks, and which value each policy prefers. This project's own.
use Rattle.std.specs.Prelude.{ℕ, List, Bool, true, false, ◌&&◌, ◌||◌, ◌%◌, nat_eq, nat_lt, slice_index}
use Rattle.ccsl_policy.specs.declared.policies.Policy.{Policy}
use Rattle.ccsl_policy.specs.declared.policies.Policy.TheVariants.{Min, Max, Seeded}

-- the word of a declared clock
abbrev pub word_of : List ℕ → ℕ → ℕ
word_of words c = slice_index words c

-- whether clock c has the higher priority: the smaller word, and of two same words the smaller number
abbrev pub comes_before : List ℕ → ℕ → ℕ → Bool
comes_before words c d = nat_lt (word_of words c) (word_of words d) || (nat_eq (word_of words c) (word_of words d) && nat_lt c d)

-- the value that a policy prefers for a clock with a word: under `Seeded` the word's lowest bit
abbrev pub preferred : Policy → ℕ → Bool
preferred Min word = false
preferred Max word = true
preferred Seeded word = nat_eq (word % 2) 1
