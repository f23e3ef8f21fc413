-- What there is one of, and only one.
use Rattle.std.specs.Prelude.{◌≡◌, ◌⊎◌, ℕ, ◌≤◌, false}
use Rattle.ccsl_base.specs.declared.limits.TheConstants.{MAX_LETTERS}
use Rattle.ccsl_words.specs.Word.{BinaryWord, letter, is_finite, word_len}
use Rattle.ccsl_periodic.specs.Canonical.{IsCanonical}
use Rattle.ccsl_periodic.specs.declared.between.Between.{Between}
use Rattle.ccsl_periodic.specs.Failures.{IsFirstFailure, NeverFails}
use Rattle.ccsl_periodic.specs.Filtered.{IsOn, IsPlainLength}

-- WORDS OF THE SAME LETTERS HAVE ONE CANONICAL SPELLING
abbrev pub CanonicalWordsAreOne : Type 0
CanonicalWordsAreOne = (w x c d : BinaryWord) → ((k : ℕ) → letter w k ≡ letter x k) → IsCanonical c w → IsCanonical d x → c ≡ d

-- THE PLAIN SPELLING OF ONE WORD ON ANOTHER HAS ONE LENGTH
abbrev pub PlainLengthsAreOne : Type 0
PlainLengthsAreOne = (u v : BinaryWord) (m n : ℕ) → IsPlainLength u v m → IsPlainLength u v n → m ≡ n

-- AN INFINITE WORD HAS A CANONICAL SPELLING
abbrev pub CanonicalWordsExist : Type 0
CanonicalWordsExist = (w : BinaryWord) → is_finite w ≡ false → (c : BinaryWord) × IsCanonical c w

-- A RELATION NEVER FAILS OR HAS A FIRST FAILURE, between infinite words with as many letters as a word may have
abbrev pub RelationsAreDecided : Type 0
RelationsAreDecided = (relation : Between) (u v : BinaryWord) → is_finite u ≡ false → is_finite v ≡ false →
    word_len u ≤ MAX_LETTERS → word_len v ≤ MAX_LETTERS → NeverFails relation u v ⊎ ((k : ℕ) × IsFirstFailure relation u v k)

-- u on v has a plain length, and a word
pub record HasWordOn (u v : BinaryWord) : Type 0 where
  pub len : ℕ
  pub plain : IsPlainLength u v len
  pub word : BinaryWord
  pub is_on : IsOn u v word

-- ONE INFINITE WORD ON ANOTHER IS A WORD
abbrev pub WordsOnWordsExist : Type 0
WordsOnWordsExist = (u v : BinaryWord) → is_finite u ≡ false → is_finite v ≡ false → HasWordOn u v
