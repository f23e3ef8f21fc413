-- WHAT `periodic` ANSWERS on two infinite words: whether a relation holds between the filters of one clock by these words, or at which
-- tick of that clock, counted from 1, it first fails; or the word of a filter of a filter. Words are written in their canonical spelling.
use Rattle.std.specs.Prelude.{◌≡◌, ℕ, ◌+◌, ◌<◌, ◌≤◌, List}
use Rattle.ccsl_base.specs.declared.limits.TheConstants.{MAX_LETTERS}
use Rattle.ccsl_words.specs.Word.{BinaryWord}
use Rattle.ccsl_words.specs.Spelling.{spelling}
use Rattle.ccsl_command.specs.declared.table.RelationName.{RelationName}
use Rattle.ccsl_command.specs.declared.table.RelationName.TheVariants as name
use Rattle.ccsl_periodic.specs.declared.between.Between.{Between}
use Rattle.ccsl_periodic.specs.declared.between.Between.TheVariants.{Precedes, Subclock, Excludes}
use Rattle.ccsl_periodic.specs.Failures.{IsFirstFailure, NeverFails}
use Rattle.ccsl_periodic.specs.Filtered.{IsOn, IsPlainLength}
use Rattle.ccsl_periodic.specs.Canonical.{IsCanonical}
use Rattle.ccsl_report.specs.Texts.{periodic_holds_text, periodic_fails_text, periodic_word_text, periodic_long_text}
use Rattle.ccsl_top.specs.Outcome.{Outcome, outcome}

-- a word is written thus
pub record IsWritten (w : BinaryWord) (text : List ℕ) : Type 0 where
  pub canonical : BinaryWord
  pub is : IsCanonical canonical w
  pub spelled : text ≡ spelling canonical

module _ (u v : BinaryWord) where
  -- whether a relation, of this name, holds
  pub data IsRelated (relation : RelationName) (between : Between) (o : Outcome) : Type 0 where
    holds : (never : NeverFails between u v) (left right : List ℕ) (left_is : IsWritten u left) (right_is : IsWritten v right)
        (is : o ≡ outcome 0 (periodic_holds_text left right relation)) → IsRelated relation between o
    fails : (k : ℕ) (first : IsFirstFailure between u v k) (left right : List ℕ) (left_is : IsWritten u left) (right_is : IsWritten v right)
        (is : o ≡ outcome 1 (periodic_fails_text left right relation (k + 1))) → IsRelated relation between o

  -- which word filters as u and then v do, where it has no more letters than a word may have
  pub data IsFiltered (o : Outcome) : Type 0 where
    word : (n : ℕ) (plain : IsPlainLength u v n) (short : n ≤ MAX_LETTERS) (w : BinaryWord) (on : IsOn u v w) (text : List ℕ) (text_is : IsWritten w text)
        (is : o ≡ outcome 0 (periodic_word_text text)) → IsFiltered o
    long : (n : ℕ) (plain : IsPlainLength u v n) (many : MAX_LETTERS < n) (is : o ≡ outcome 1 (periodic_long_text n)) → IsFiltered o

  abbrev pub IsPeriodicOutcome : RelationName → Outcome → Type 0
  IsPeriodicOutcome name.Precedes o = IsRelated name.Precedes Precedes o
  IsPeriodicOutcome name.Subclock o = IsRelated name.Subclock Subclock o
  IsPeriodicOutcome name.Excludes o = IsRelated name.Excludes Excludes o
  IsPeriodicOutcome name.On o = IsFiltered o
