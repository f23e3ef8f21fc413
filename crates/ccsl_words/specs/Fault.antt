-- Why a text is no word. A text is read from its front, as far as that front can go on to a word and has at most MAX_LETTERS letters, and no further:
-- what stands at the next place, or that the text ends there, is the one fault.
use Rattle.std.specs.Prelude.{◌≡◌, ℕ, ◌+◌, ◌<◌, ◌≤◌, List, [], ◌++◌, length, take, codes, count_by, Bool, ◌⊎◌}
use Rattle.ccsl_base.specs.declared.limits.TheConstants.{MAX_LETTERS}
use Rattle.ccsl_words.specs.declared.fault.WordFault.{WordFault}
use Rattle.ccsl_words.specs.declared.fault.WordFault.TheVariants as fault
use Rattle.ccsl_words.specs.Word.{BinaryWord}
use Rattle.ccsl_words.specs.Spelling.{digits, spelling, is_digit}

-- the front of a word's text, whatever the number of its letters
abbrev pub CanGoOn : List ℕ → Type 0
CanGoOn front = (w : BinaryWord) × (more : List ℕ) × (front ++ more ≡ spelling w)

abbrev pub letter_count : List ℕ → ℕ
letter_count text = count_by is_digit text

-- letters, and then () where a period stands
abbrev pub EndsWithoutPeriod : List ℕ → Type 0
EndsWithoutPeriod front = (letters : List Bool) × (front ≡ digits letters ++ codes "()")

-- letters, then (, and then letters or none
abbrev pub EndsInsidePeriod : List ℕ → Type 0
EndsInsidePeriod front = (prefix period : List Bool) × (front ≡ digits prefix ++ (codes "(" ++ digits period))

-- the first bytes of a text, as many as a place says, can be read
pub record IsReadTo (text : List ℕ) (place : ℕ) : Type 0 where
  pub within : place ≤ length text
  pub goes_on : CanGoOn (take place text)
  pub few_letters : letter_count (take place text) ≤ MAX_LETTERS

-- the byte at the place is the ) of a period without letters
pub record ClosesEmptyAt (text : List ℕ) (place : ℕ) : Type 0 where
  pub read : IsReadTo text place
  pub closes : EndsWithoutPeriod (take (place + 1) text)

-- the byte at the place is one letter too many
pub record PassesLimitAt (text : List ℕ) (place : ℕ) : Type 0 where
  pub read : IsReadTo text place
  pub goes_on : CanGoOn (take (place + 1) text)
  pub letters : letter_count (take (place + 1) text) ≡ MAX_LETTERS + 1

-- the byte at the place can't stand there
pub record StrayAt (text : List ℕ) (place : ℕ) : Type 0 where
  pub read : IsReadTo text place
  pub there : place < length text
  pub stops : ¬ CanGoOn (take (place + 1) text)
  pub not_closing : ¬ EndsWithoutPeriod (take (place + 1) text)

-- the text ends at the place, inside its period
pub record EndsAt (text : List ℕ) (place : ℕ) : Type 0 where
  pub read : IsReadTo text place
  pub ends : place ≡ length text
  pub inside : EndsInsidePeriod text

-- the fault of a text; want of memory is none
abbrev pub IsFault : List ℕ → WordFault → Type 0
IsFault text fault.Empty = (text ≡ []) ⊎ ((place : ℕ) × ClosesEmptyAt text place)
IsFault text (fault.BadLetter place) = StrayAt text place ⊎ EndsAt text place
IsFault text fault.TooLong = (place : ℕ) × PassesLimitAt text place
IsFault text fault.Memory = ⊥
