-- THE FORMULA OF AN ITEM AT A STEP. Items are the definitions, in the order of their clocks, and then the constraints.
use Rattle.std.specs.Prelude.{ℕ, ◌+◌, ◌-◌, List, [], Option, Some, None, map, take, length, slice_get, nat_eq, nat_le, if◌then◌else◌}
use Rattle.ccsl_base.specs.Clocks.{ticks_in}
use Rattle.ccsl_formula.specs.Formula.{Formula, FTrue, FVar, FNot, FAnd, FOr, FIff}
use Rattle.ccsl_kernel.specs.declared.constraint.RelationKind.TheVariants.{Subclock, Coincides, Excludes, Precedes, PrecedesWeakly, PrecedesWithin}
use Rattle.ccsl_kernel.specs.Syntax.{RelationKind, Constraint, Expression, System}
use Rattle.ccsl_kernel.specs.Ticks.{count}
use Rattle.ccsl_kernel.specs.Lives.{Step}
use Rattle.ccsl_kernel.specs.Meaning.{formula_at}

-- how often clock x ticked in the first n steps
abbrev pub clock_count : List Step → ℕ → ℕ → ℕ
clock_count T x n = count (map (ticks_in x) (take n T))

-- the formula of a relation between the clocks a and b, which have ticked m and n times
abbrev pub relation_formula : RelationKind → ℕ → ℕ → ℕ → ℕ → Formula
relation_formula Subclock a b m n = FOr (FNot (FVar a)) (FVar b)
relation_formula Coincides a b m n = FIff (FVar a) (FVar b)
relation_formula Excludes a b m n = FNot (FAnd (FVar a) (FVar b))
relation_formula Precedes a b m n = if nat_eq m n then FNot (FVar b) else FTrue
relation_formula PrecedesWeakly a b m n = if nat_eq m n then FOr (FNot (FVar b)) (FVar a) else FTrue
relation_formula (PrecedesWithin k) a b m n =
    FAnd (if nat_eq m n then FNot (FVar b) else FTrue) (if nat_le (n + k) m then FOr (FNot (FVar a)) (FVar b) else FTrue)

abbrev pub constraint_formula : List Step → ℕ → Constraint → Formula
constraint_formula T n c = relation_formula c.kind c.left c.right (clock_count T c.left n) (clock_count T c.right n)

-- clock x ticks where the formula of the expression that defines it holds
abbrev pub definition_formula : System → List Step → ℕ → ℕ → Expression → Formula
definition_formula K T n x e = FIff (FVar x) (formula_at K T x e [] 0 n)

-- a constraint, and True where there is no such item
abbrev pub constraint_or_true : List Step → ℕ → Option Constraint → Formula
constraint_or_true T n None = FTrue
constraint_or_true T n (Some c) = constraint_formula T n c

abbrev pub item_or_constraint : System → List Step → ℕ → ℕ → Option Expression → Formula
item_or_constraint K T n i (Some e) = definition_formula K T n (K.declared + i) e
item_or_constraint K T n i None = constraint_or_true T n (slice_get K.constraints (i - length K.definitions))

-- the formula of item number i at step n, after the first n steps of T
abbrev pub item_formula : System → List Step → ℕ → ℕ → Formula
item_formula K T n i = item_or_constraint K T n i (slice_get K.definitions i)
