-- When a text reads as a word.
use Rattle.std.specs.Prelude.{◌≡◌, ℕ, ◌<◌, ◌≤◌, List}
use Rattle.ccsl_base.specs.declared.limits.TheConstants.{MAX_LETTERS}
use Rattle.ccsl_words.specs.Word.{BinaryWord, word_len}
use Rattle.ccsl_words.specs.Spelling.{spelling}

-- the text reads as the word: it is its spelling, and the word has at least one letter and at most MAX_LETTERS
pub record Reads (text : List ℕ) (w : BinaryWord) : Type 0 where
  pub spelled : text ≡ spelling w
  pub some_letter : 0 < word_len w
  pub few_letters : word_len w ≤ MAX_LETTERS
