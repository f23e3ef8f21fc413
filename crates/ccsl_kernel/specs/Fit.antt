-- Offsets that fit their words: each word that is named, by a test, an argument or an actual parameter, has an offset at which it can stand.
use Rattle.std.specs.Prelude.{List, All}
use Rattle.ccsl_words.specs.Word.{BinaryWord}
use Rattle.ccsl_kernel.specs.declared.actual.Actual.TheVariants as actual
use Rattle.ccsl_kernel.specs.declared.expr.WordPlace.TheVariants as word
use Rattle.ccsl_kernel.specs.declared.expr.Value.TheVariants as value
use Rattle.ccsl_kernel.specs.declared.expr.ExprTest.TheVariants as test
use Rattle.ccsl_kernel.specs.Syntax.{WordPlace, Value, ExprTest}
use Rattle.ccsl_kernel.specs.Actuals.{Actual, Suffix, word_of}
use Rattle.ccsl_kernel.specs.Accepted.{IsOffset}

module _ (words : List BinaryWord) where
  abbrev pub SuffixFits : Suffix → Type 0
  SuffixFits s = IsOffset (word_of words s.word) s.offset

  abbrev pub ActualFits : Actual → Type 0
  ActualFits (actual.Word w o) = IsOffset (word_of words w) o
  ActualFits _ = Unit {0}

  abbrev pub ActualsFit : List Actual → Type 0
  ActualsFit = All ActualFits

  abbrev pub PlaceFits : WordPlace → Type 0
  PlaceFits (word.Word w o) = IsOffset (word_of words w) o
  PlaceFits _ = Unit {0}

  abbrev pub TestFits : ExprTest → Type 0
  TestFits (test.Head w) = PlaceFits w
  TestFits (test.Ended w) = PlaceFits w
  TestFits _ = Unit {0}

  abbrev pub ValueFits : Value → Type 0
  ValueFits (value.Word w) = PlaceFits w
  ValueFits _ = Unit {0}
