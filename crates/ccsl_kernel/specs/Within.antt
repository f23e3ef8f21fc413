-- Which clocks an expression names, and actual parameters: those with P alone.
use Rattle.std.specs.Prelude.{ℕ, List, [], ◌∷◌}
use Rattle.ccsl_kernel.specs.declared.expr.Place.{Place}
use Rattle.ccsl_kernel.specs.declared.expr.Place.TheVariants as place
use Rattle.ccsl_kernel.specs.declared.expr.Value.{Value}
use Rattle.ccsl_kernel.specs.declared.expr.Value.TheVariants as value
use Rattle.ccsl_kernel.specs.declared.actual.Actual.{Actual}
use Rattle.ccsl_kernel.specs.declared.actual.Actual.TheVariants as actual
use Rattle.ccsl_kernel.specs.Syntax.{Expression, EName, ECall, ENever, EBinary, EDelay, EAwait, EFilter, EDelayed, EIf}

module _ (P : ℕ → Type 0) where
  abbrev pub PlaceWithin : Place → Type 0
  PlaceWithin (place.Clock x) = P x
  PlaceWithin (place.Param i) = Unit {0}

  abbrev pub ArgsWithin : List Value → Type 0
  ArgsWithin [] = Unit {0}
  ArgsWithin (value.Clock x ∷ args) = PlaceWithin x × ArgsWithin args
  ArgsWithin (value.Number t ∷ args) = ArgsWithin args
  ArgsWithin (value.Word w ∷ args) = ArgsWithin args

  abbrev pub NamesWithin : Expression → Type 0
  NamesWithin (EName x) = PlaceWithin x
  NamesWithin (ECall group member args) = ArgsWithin args
  NamesWithin ENever = Unit {0}
  NamesWithin (EBinary op a d) = NamesWithin a × NamesWithin d
  NamesWithin (EDelay a m) = NamesWithin a
  NamesWithin (EAwait a m) = NamesWithin a
  NamesWithin (EFilter a w) = NamesWithin a
  NamesWithin (EDelayed a m d) = NamesWithin a × NamesWithin d
  NamesWithin (EIf q a d) = NamesWithin a × NamesWithin d

  abbrev pub ActualsWithin : List Actual → Type 0
  ActualsWithin [] = Unit {0}
  ActualsWithin (actual.Clock x ∷ ρ) = P x × ActualsWithin ρ
  ActualsWithin (actual.Number n ∷ ρ) = ActualsWithin ρ
  ActualsWithin (actual.Word w o ∷ ρ) = ActualsWithin ρ
