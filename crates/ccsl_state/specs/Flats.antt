-- AN OPERATOR OVER CLOCKS, as it was found of a definition's expression.
use Rattle.std.specs.Prelude.{◌≡◌, [], false, Option, Some, None, IfSome, length, slice_get, slice_index_or, ℕ, List}
use Rattle.ccsl_kernel.specs.declared.expr.Expr.{Expr}
use Rattle.ccsl_kernel.specs.declared.expr.Place.TheVariants as place
use Rattle.ccsl_kernel.specs.declared.expr.NumTerm.{NumTerm}
use Rattle.ccsl_kernel.specs.Actuals.{number_of}
use Rattle.ccsl_kernel.specs.Syntax.{Expression, EName, EBinary, EDelay, EAwait, EDelayed, System}
use Rattle.ccsl_kernel.specs.Plain.{plain_expr}
use Rattle.ccsl_state.specs.Standing.{is_then}
use Rattle.ccsl_state.specs.declared.flat.Flat.{Flat}
use Rattle.ccsl_state.specs.declared.flat.Flat.TheVariants.{Two, Delayed, Delay, Await}

abbrev pub clock_name : ℕ → Expression
clock_name x = EName (place.Clock x)

abbrev pub IsFlatly : Expression → Flat → Type 0
IsFlatly e (Two o x y) = (e ≡ EBinary o (clock_name x) (clock_name y)) × (is_then o ≡ false)
IsFlatly e (Delayed x m y) = e ≡ EDelayed (clock_name x) m (clock_name y)
IsFlatly e (Delay x n) = (m : NumTerm) × (e ≡ EDelay (clock_name x) m) × (number_of m [] ≡ n)
IsFlatly e (Await x n) = (m : NumTerm) × (e ≡ EAwait (clock_name x) m) × (number_of m [] ≡ n)

abbrev pub IsFlat : Expr → Flat → Type 0
IsFlat e flat = IsFlatly (plain_expr e) flat

-- what was found of definition number i, and of each
abbrev pub IsFlatAt : System → ℕ → Option Flat → Type 0
IsFlatAt K i o = (e : Expression) → slice_get K.definitions i ≡ Some e → IfSome o (IsFlatly e)

pub record AreFlats (K : System) (flats : List (Option Flat)) : Type 0 where
  pub count : length flats ≡ length K.definitions
  pub each : (i : ℕ) → IsFlatAt K i (slice_index_or flats i None)
