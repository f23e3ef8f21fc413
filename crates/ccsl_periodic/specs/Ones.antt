-- How often the letter 1 stands in a word.
use Rattle.std.specs.Prelude.{ℕ, zero, suc, ◌-◌, length, if◌then◌else◌}
use Rattle.ccsl_words.specs.Word.{BinaryWord, letter, word_len}

-- among the first k letters
abbrev pub ones : BinaryWord → ℕ → ℕ
ones w zero = 0
ones w (suc k) = if letter w k then suc (ones w k) else ones w k

-- in the period: the ones of prefix and period, but for those of the prefix
abbrev pub period_ones : BinaryWord → ℕ
period_ones w = ones w (word_len w) - ones w (length w.prefix)
