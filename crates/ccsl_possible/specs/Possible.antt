-- WHAT IS POSSIBLE after some steps: whether a set of declared clocks may tick next, or which constraint forbids it, and which clocks may.
use Rattle.std.specs.Prelude.{ℕ, ◌+◌, List, Bool, not, Option, find, filter, length}
use Rattle.std.specs.List.{list_any}
use Rattle.ccsl_base.specs.Clocks.{ticks_in}
use Rattle.ccsl_formula.specs.Formula.{eval}
use Rattle.ccsl_kernel.specs.Syntax.{System}
use Rattle.ccsl_kernel.specs.Lives.{Step, steps}
use Rattle.ccsl_kernel.specs.Items.{item_formula}
use Rattle.ccsl_kernel.specs.Runs.{full_step}
use Rattle.ccsl_items.specs.Admissible.{admissible_sets}

-- whether constraint j fails where the steps T go on by the declared clocks s and the defined clocks that these give
abbrev pub fails : System → List Step → Step → ℕ → Bool
fails K T s j = not (eval (item_formula K T (length T) (length K.definitions + j)) (full_step K T s))

-- the least constraint that fails
abbrev pub first_failing : System → List Step → Step → Option ℕ
first_failing K T s = find (fails K T s) (steps 0 (length K.constraints))

-- whether a declared clock is a member of some admissible set
abbrev pub is_allowed : System → List Step → ℕ → Bool
is_allowed K T x = list_any (ticks_in x) (admissible_sets K T)

abbrev pub allowed_clocks : System → List Step → Step
allowed_clocks K T = filter (is_allowed K T) (steps 0 K.declared)
