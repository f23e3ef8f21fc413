-- What a core is worth. This project's own.
use Rattle.std.specs.Prelude.{ℕ, ◌≡◌, ◌≤◌, List, All, Contains}
use Rattle.ccsl_formula.specs.declared.scope.Scope.{Scope}
use Rattle.ccsl_formula.specs.Formula.{Formula}
use Rattle.ccsl_formula.specs.Variables.{ReadsBelow}
use Rattle.ccsl_refute.specs.declared.line.Line.{Line}
use Rattle.ccsl_refute.specs.Meaning.{Blocks}
use Rattle.ccsl_explain.specs.Core.{Block, AreOpen, IsCore}
use Rattle.ccsl_explain.specs.Explained.{IsPossible, IsExplained}
use Rattle.ccsl_explain.specs.Least.{IsOther, IsLeastWithout}

module _ (scope : Scope) (formulas : List Formula) where
  -- THE CORE BLOCKS, where all items together do
  abbrev pub CoresBlock : Type 0
  CoresBlock = (core : List ℕ) → Blocks scope formulas → IsCore scope formulas core → Block scope formulas (Contains core)

  -- AND NONE OF ITS MEMBERS CAN GO: without it the others do not block
  abbrev pub CoresAreMinimal : Type 0
  CoresAreMinimal = (core : List ℕ) → IsCore scope formulas core → (i : ℕ) → Contains core i → AreOpen scope formulas (IsOther core i)

  -- THERE IS ONE CORE, and one least set without each of its members
  abbrev pub CoresAreOne : Type 0
  CoresAreOne = (a b : List ℕ) → IsCore scope formulas a → IsCore scope formulas b → a ≡ b

  abbrev pub LeastSetsAreOne : Type 0
  LeastSetsAreOne = (core : List ℕ) (i : ℕ) (s t : List ℕ) →
      IsLeastWithout scope formulas core i s → IsLeastWithout scope formulas core i t → s ≡ t

  -- a step is possible, or there are a core, lines and least sets that explain why none is
  pub data HasExplanation : Type 0 where
    possible : (step : List ℕ) (one : IsPossible scope formulas step) → HasExplanation
    blocked : (core : List ℕ) (lines : List Line) (without : List (List ℕ)) (why : IsExplained scope formulas core lines without) → HasExplanation

  -- THERE IS AN EXPLANATION, of formulas over the named clocks
  abbrev pub ExplanationsExist : Type 0
  ExplanationsExist = scope.declared ≤ scope.named → All (ReadsBelow scope.named) formulas → HasExplanation
