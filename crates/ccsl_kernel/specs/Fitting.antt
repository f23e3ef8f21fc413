-- Expressions in which each word has an offset at which it can stand.
use Rattle.std.specs.Prelude.{List, All}
use Rattle.ccsl_words.specs.Word.{BinaryWord}
use Rattle.ccsl_kernel.specs.Syntax.{Value, Expression, EName, ECall, ENever, EBinary, EDelay, EAwait, EFilter, EDelayed, EIf}
use Rattle.ccsl_kernel.specs.Fit.{PlaceFits, TestFits, ValueFits}

module _ (words : List BinaryWord) where
  abbrev pub ValuesFit : List Value → Type 0
  ValuesFit = All (ValueFits words)

  abbrev pub ExprFits : Expression → Type 0
  ExprFits (EName x) = Unit {0}
  ExprFits (ECall group member args) = ValuesFit args
  ExprFits ENever = Unit {0}
  ExprFits (EBinary op a d) = ExprFits a × ExprFits d
  ExprFits (EDelay a m) = ExprFits a
  ExprFits (EAwait a m) = ExprFits a
  ExprFits (EFilter a w) = ExprFits a × PlaceFits words w
  ExprFits (EDelayed a m d) = ExprFits a × ExprFits d
  ExprFits (EIf q a d) = TestFits words q × ExprFits a × ExprFits d
