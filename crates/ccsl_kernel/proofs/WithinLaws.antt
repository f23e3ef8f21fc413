-- What names clocks with P alone, and what its parameters then stand for.
use Rattle.std.proofs.Common.{ℕ, zero, suc, List, [], ◌∷◌, map, get_or}
use Rattle.ccsl_words.specs.Word.{BinaryWord}
use Rattle.ccsl_kernel.specs.declared.expr.Place.{Place}
use Rattle.ccsl_kernel.specs.declared.expr.Value.{Value}
use Rattle.ccsl_kernel.specs.declared.actual.Actual.{Actual}
use Rattle.ccsl_kernel.specs.declared.expr.Place.TheVariants as place
use Rattle.ccsl_kernel.specs.declared.expr.Value.TheVariants as value
use Rattle.ccsl_kernel.specs.declared.actual.Actual.TheVariants as actual
use Rattle.ccsl_kernel.specs.Syntax.{Expression, EName, ECall, ENever, EBinary, EDelay, EAwait, EFilter, EDelayed, EIf}
use Rattle.ccsl_kernel.specs.Actuals.{place_of, value_of}
use Rattle.ccsl_kernel.specs.Within.{PlaceWithin, ArgsWithin, NamesWithin, ActualsWithin}

-- what names clocks with P only names clocks with Q only, where Q follows from P
module _ (P Q : ℕ → Type 0) (more : (y : ℕ) → P y → Q y) where
  place_more : (x : Place) → PlaceWithin P x → PlaceWithin Q x
  place_more (place.Clock x) h = more x h
  place_more (place.Param i) h = tt

  args_more : (args : List Value) → ArgsWithin P args → ArgsWithin Q args
  args_more [] h = tt
  args_more (value.Clock x ∷ args) h = (place_more x h.0, args_more args h.1)
  args_more (value.Number t ∷ args) h = args_more args h
  args_more (value.Word w ∷ args) h = args_more args h

  pub names_more : (e : Expression) → NamesWithin P e → NamesWithin Q e
  names_more (EName x) h = place_more x h
  names_more (ECall group member args) h = args_more args h
  names_more ENever h = tt
  names_more (EBinary op a d) h = (names_more a h.0, names_more d h.1)
  names_more (EDelay a m) h = names_more a h
  names_more (EAwait a m) h = names_more a h
  names_more (EFilter a w) h = names_more a h
  names_more (EDelayed a m d) h = (names_more a h.0, names_more d h.1)
  names_more (EIf q a d) h = (names_more a h.0, names_more d h.1)

  pub actuals_more : (ρ : List Actual) → ActualsWithin P ρ → ActualsWithin Q ρ
  actuals_more [] h = tt
  actuals_more (actual.Clock x ∷ ρ) h = (more x h.0, actuals_more ρ h.1)
  actuals_more (actual.Number n ∷ ρ) h = actuals_more ρ h
  actuals_more (actual.Word w o ∷ ρ) h = actuals_more ρ h

-- one actual parameter
abbrev pub ActualWithin : (ℕ → Type 0) → Actual → Type 0
ActualWithin P v = ActualsWithin P (v ∷ [])

module _ (P : ℕ → Type 0) where
  param_within : (ρ : List Actual) (i : ℕ) → ActualsWithin P ρ → ActualWithin P (get_or ρ i (actual.Number 0))
  param_within [] i h = tt
  param_within (actual.Clock x ∷ ρ) zero h = (h.0, tt)
  param_within (actual.Number n ∷ ρ) zero h = tt
  param_within (actual.Word w o ∷ ρ) zero h = tt
  param_within (actual.Clock x ∷ ρ) (suc i) h = param_within ρ i h.1
  param_within (actual.Number n ∷ ρ) (suc i) h = param_within ρ i h
  param_within (actual.Word w o ∷ ρ) (suc i) h = param_within ρ i h

  pub place_within : (x : Place) (ρ : List Actual) → PlaceWithin P x → ActualsWithin P ρ → ActualWithin P (place_of x ρ)
  place_within (place.Clock x) ρ h v = (h, tt)
  place_within (place.Param i) ρ h v = param_within ρ i v

  actual_cons : (v : Actual) (ρ : List Actual) → ActualWithin P v → ActualsWithin P ρ → ActualsWithin P (v ∷ ρ)
  actual_cons (actual.Clock x) ρ h r = (h.0, r)
  actual_cons (actual.Number n) ρ h r = r
  actual_cons (actual.Word w o) ρ h r = r

  pub args_within : (words : List BinaryWord) (args : List Value) (ρ : List Actual) → ArgsWithin P args → ActualsWithin P ρ
      → ActualsWithin P (map (value_of words ρ) args)
  args_within words [] ρ h v = tt
  args_within words (value.Clock x ∷ args) ρ h v = actual_cons (place_of x ρ) _ (place_within x ρ h.0 v) (args_within words args ρ h.1 v)
  args_within words (value.Number t ∷ args) ρ h v = args_within words args ρ h v
  args_within words (value.Word w ∷ args) ρ h v = args_within words args ρ h v
