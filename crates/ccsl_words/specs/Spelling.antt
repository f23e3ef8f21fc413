-- The texts of binary words: letters 0 and 1, and then nothing or a period of at least one letter in parentheses, as 0110, 01(10) and (1).
use Rattle.std.specs.Prelude.{ℕ, List, [], ◌∷◌, ◌++◌, map, drop, take_while, length, codes, Bool, true, false, ◌||◌, not, ◌&&◌, nat_eq, nat_le, bytes_eq}
use Rattle.std.specs.Prelude.{Option, Some, None, if◌then◌else◌}
use Rattle.ccsl_base.specs.declared.limits.TheConstants.{MAX_LETTERS}
use Rattle.ccsl_words.specs.Word.{BinaryWord, word_len}
use Rattle.ccsl_base.specs.Empty.{is_empty}

-- the byte of a letter
abbrev pub digit : Bool → ℕ
digit false = 48
digit true = 49

abbrev pub digits : List Bool → List ℕ
digits letters = map digit letters

-- the text of a period, which is none where the word is finite
abbrev pub period_text : List Bool → List ℕ
period_text [] = []
period_text (x ∷ xs) = codes "(" ++ digits (x ∷ xs) ++ codes ")"

abbrev pub spelling : BinaryWord → List ℕ
spelling w = digits w.prefix ++ period_text w.period

-- The word that a text reads as, if there is one, computed from the text.

abbrev pub is_digit : ℕ → Bool
is_digit b = nat_eq b 48 || nat_eq b 49

-- the letters with which a text begins
abbrev pub leading_letters : List ℕ → List Bool
leading_letters text = map (λ b. nat_eq b 49) (take_while is_digit text)

abbrev pub behind_letters : List ℕ → List ℕ
behind_letters text = drop (length (leading_letters text)) text

abbrev pub short_word : BinaryWord → Option BinaryWord
short_word w = if nat_le (word_len w) MAX_LETTERS then Some w else None

-- what follows the letters of a period has to be its end
abbrev pub word_closed : List Bool → List Bool → List ℕ → Option BinaryWord
word_closed prefix period behind =
    if bytes_eq behind (codes ")") && not (is_empty period) then short_word (record { prefix = prefix; period = period }) else None

-- with nothing behind the letters of the prefix they are a finite word; else a period follows
abbrev pub word_with : List ℕ → List Bool → Option BinaryWord
word_with [] prefix = if is_empty prefix then None else short_word (record { prefix = prefix; period = [] })
word_with (b ∷ bs) prefix = if nat_eq b 40 then word_closed prefix (leading_letters bs) (behind_letters bs) else None

abbrev pub read_word : List ℕ → Option BinaryWord
read_word text = word_with (behind_letters text) (leading_letters text)
