-- THE CANONICAL SPELLING of an infinite word: of all that have its letters, the one with the shortest period, and among these the shortest prefix.
use Rattle.std.specs.Prelude.{◌≡◌, ℕ, ◌≤◌, length, false}
use Rattle.ccsl_words.specs.Word.{BinaryWord, letter, is_finite}

-- an infinite word with the letters of w
pub record Spells (x w : BinaryWord) : Type 0 where
  pub infinite : is_finite x ≡ false
  pub letters : (k : ℕ) → letter x k ≡ letter w k

pub record IsCanonical (c w : BinaryWord) : Type 0 where
  pub spells : Spells c w
  pub period : (x : BinaryWord) → Spells x w → length c.period ≤ length x.period
  pub prefix : (x : BinaryWord) → Spells x w → length x.period ≡ length c.period → length c.prefix ≤ length x.prefix
