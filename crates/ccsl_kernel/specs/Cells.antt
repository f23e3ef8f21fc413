-- The cells of expressions and systems.
use Rattle.std.specs.Prelude.{ℕ, ◌+◌, ◌*◌, ◌/◌, List, [], ◌∷◌, ◌++◌, length, map, max, min, sum, slice_index}
use Rattle.ccsl_kernel.specs.declared.expr.ExprOp.TheVariants as op
use Rattle.ccsl_kernel.specs.Syntax.{ExprOp, Expression, ECall, EBinary, EDelay, EAwait, EFilter, EDelayed, EIf, Body, System}

-- a count as it is told, at most 4,294,967,295
abbrev pub saturated : ℕ → ℕ
saturated n = min n 4294967295

abbrev pub greatest : List ℕ → ℕ
greatest [] = 0
greatest (n ∷ ns) = max n (greatest ns)

abbrev pub cells_of_two : ExprOp → ℕ → ℕ → ℕ
cells_of_two op.Inf a d = 2 + a + d
cells_of_two op.Sup a d = 2 + a + d
cells_of_two op.Then a d = 1 + max a d
cells_of_two _ a d = 1 + a + d

-- `earlier` has the cells of a call to each earlier group; a call to the own group has none
abbrev pub cells_in : List ℕ → Expression → ℕ
cells_in earlier (ECall group member args) = slice_index earlier group
cells_in earlier (EBinary op a d) = cells_of_two op (cells_in earlier a) (cells_in earlier d)
cells_in earlier (EDelay a m) = 1 + cells_in earlier a
cells_in earlier (EAwait a m) = 1 + cells_in earlier a
cells_in earlier (EFilter a w) = 1 + cells_in earlier a
cells_in earlier (EDelayed a m d) = 2 + (m + 63) / 64 + cells_in earlier a + cells_in earlier d
cells_in earlier (EIf q a d) = 1 + max (cells_in earlier a) (cells_in earlier d)
cells_in earlier _ = 1

-- the cells of a call to a group
abbrev pub group_cells : List ℕ → List Body → ℕ
group_cells earlier members = 1 + greatest (map (λ b. length b.params) members) + greatest (map (λ b. cells_in earlier b.root) members)

abbrev pub groups_cells : List ℕ → List (List Body) → List ℕ
groups_cells earlier [] = earlier
groups_cells earlier (g ∷ gs) = groups_cells (earlier ++ group_cells earlier g ∷ []) gs

abbrev pub cells : System → ℕ
cells K = sum (map (cells_in (groups_cells [] K.groups)) K.definitions) + 2 * length K.constraints
