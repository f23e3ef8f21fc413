-- Laws of the definitions, each of which a function carries.
use Rattle.std.specs.Prelude.{◌≡◌, ◌+◌, List, [], ◌∷◌, length, flat_map, false, Option, Some, None, ◌⊎◌}
use Rattle.ccsl_ast.specs.Trees.{PlainFile}
use Rattle.ccsl_rules.specs.Faults.{Fault, comes_before, least}
use Rattle.ccsl_rules.specs.Expansion.{expand, declared_names}
use Rattle.ccsl_rules.specs.Counts.{cut, clock_weights, constraint_weights, file_count}

-- the list has the fault
abbrev pub Has : List Fault → Fault → Type 0
Has [] f = ⊥
Has (g ∷ gs) f = (g ≡ f) ⊎ Has gs f

-- no fault of the list comes before it
abbrev pub NoneBefore : List Fault → Fault → Type 0
NoneBefore [] f = Unit {0}
NoneBefore (g ∷ gs) f = (comes_before g f ≡ false) × NoneBefore gs f

-- what the least of a list is
abbrev pub IsLeast : List Fault → Option Fault → Type 0
IsLeast fs None = fs ≡ []
IsLeast fs (Some f) = Has fs f × NoneBefore fs f

abbrev pub LeastIsLeast : Type 0
LeastIsLeast = (fs : List Fault) → IsLeast fs (least fs)

-- the totals, counted without expanding
abbrev pub CountsAreLengths : Type 0
CountsAreLengths =
    (library file : PlainFile) →
    (cut (length (expand library file).constraints) ≡ file_count constraint_weights library file) ×
    (cut (length (expand library file).names) ≡ cut (length (flat_map declared_names file.lines) + file_count clock_weights library file))
