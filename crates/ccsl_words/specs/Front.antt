-- The letters at the front of a text.
use Rattle.std.specs.Prelude.{◌≡◌, ℕ, List, [], ◌∷◌, ◌++◌, length, drop, Bool, false}
use Rattle.ccsl_words.specs.Spelling.{digits, is_digit}

abbrev pub begins_with_letter : List ℕ → Bool
begins_with_letter [] = false
begins_with_letter (b ∷ bs) = is_digit b

-- the text begins with the letters
abbrev pub BeginsWith : List ℕ → List Bool → Type 0
BeginsWith text letters = text ≡ digits letters ++ drop (length letters) text

-- the text begins with the letters, and no letter stands behind them
pub record LeadsWith (text : List ℕ) (letters : List Bool) : Type 0 where
  pub begins : BeginsWith text letters
  pub stops : begins_with_letter (drop (length letters) text) ≡ false

-- the text begins with a number of letters
abbrev pub HasLetters : List ℕ → ℕ → Type 0
HasLetters text n = (letters : List Bool) × (length letters ≡ n) × BeginsWith text letters
