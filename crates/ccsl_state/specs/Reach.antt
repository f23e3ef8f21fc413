-- Which clocks an expression names, and which sets of clocks can be followed alone.
--     names_clock e y      whether e names clock y: as the clock itself, or as an argument of a call. Members of groups name none
--     Includes K set part      set has each defined clock that part has
--     IsClosed K set      set has, with a defined clock, each defined clock that its definition names
--     is_within K set y      whether y is declared, or one of set
use Rattle.std.specs.Prelude.{◌≡◌, ℕ, ◌≤◌, List, [], ◌∷◌, Bool, true, false, ◌||◌, nat_eq, nat_lt, Some}
use Rattle.ccsl_base.specs.Clocks.{ticks_in}
use Rattle.ccsl_kernel.specs.declared.expr.Place.{Place}
use Rattle.ccsl_kernel.specs.declared.expr.Place.TheVariants as place
use Rattle.ccsl_kernel.specs.declared.expr.Value.{Value}
use Rattle.ccsl_kernel.specs.declared.expr.Value.TheVariants as value
use Rattle.ccsl_kernel.specs.Syntax.{Expression, EName, ECall, ENever, EBinary, EDelay, EAwait, EFilter, EDelayed, EIf, System, definition_of}

abbrev pub place_names : Place → ℕ → Bool
place_names (place.Clock x) y = nat_eq y x
place_names (place.Param i) y = false

abbrev pub arguments_name : List Value → ℕ → Bool
arguments_name [] y = false
arguments_name (value.Clock x ∷ args) y = place_names x y || arguments_name args y
arguments_name (value.Number t ∷ args) y = arguments_name args y
arguments_name (value.Word w ∷ args) y = arguments_name args y

abbrev pub names_clock : Expression → ℕ → Bool
names_clock (EName x) y = place_names x y
names_clock (ECall group member args) y = arguments_name args y
names_clock ENever y = false
names_clock (EBinary op a d) y = names_clock a y || names_clock d y
names_clock (EDelay a m) y = names_clock a y
names_clock (EAwait a m) y = names_clock a y
names_clock (EFilter a w) y = names_clock a y
names_clock (EDelayed a m d) y = names_clock a y || names_clock d y
names_clock (EIf q a d) y = names_clock a y || names_clock d y

-- only defined clocks count
abbrev pub Includes : System → List ℕ → List ℕ → Type 0
Includes K set part = (x : ℕ) → K.declared ≤ x → ticks_in x part ≡ true → ticks_in x set ≡ true

abbrev pub IsClosed : System → List ℕ → Type 0
IsClosed K set = (x y : ℕ) (e : Expression) → definition_of K x ≡ Some e → ticks_in x set ≡ true → names_clock e y ≡ true → K.declared ≤ y
    → ticks_in y set ≡ true

abbrev pub is_within : System → List ℕ → ℕ → Bool
is_within K set y = nat_lt y K.declared || ticks_in y set
