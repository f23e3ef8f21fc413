-- Worked examples of the meaning, by computing.
use Rattle.std.specs.Prelude.{zero, suc, ◌≡◌, ℕ, List, [], ◌∷◌, Bool, true, false, map, length, refl}
use Rattle.ccsl_base.specs.declared.rows.Row.{Row}
use Rattle.ccsl_formula.specs.Formula.{FTrue, FVar, FNot}
use Rattle.ccsl_kernel.specs.declared.expr.NumTerm.{NumTerm}
use Rattle.ccsl_kernel.specs.declared.constraint.Constraint.{Constraint}
use Rattle.ccsl_kernel.specs.declared.constraint.RelationKind.{RelationKind}
use Rattle.ccsl_kernel.specs.declared.expr.Place.TheVariants.{Clock, Param}
use Rattle.ccsl_kernel.specs.declared.expr.NumPrim.TheVariants as prim
use Rattle.ccsl_kernel.specs.declared.expr.NumSign.TheVariants as sign
use Rattle.ccsl_kernel.specs.declared.expr.Value.TheVariants as value
use Rattle.ccsl_kernel.specs.declared.expr.WordPlace.TheVariants as word
use Rattle.ccsl_kernel.specs.declared.expr.ExprOp.TheVariants as op
use Rattle.ccsl_kernel.specs.declared.group.ParamKind.TheVariants as kind
use Rattle.ccsl_kernel.specs.declared.constraint.RelationKind.TheVariants.{Precedes, PrecedesWeakly}
use Rattle.ccsl_kernel.specs.Syntax.{Body, Expression, EName, ECall, ENever, EBinary, EDelay, EAwait, EFilter, EDelayed, System}
use Rattle.ccsl_kernel.specs.Lives.{Step, steps}
use Rattle.ccsl_kernel.specs.Deaths.{dead_at}
use Rattle.ccsl_kernel.specs.Items.{item_formula}
use Rattle.ccsl_kernel.specs.Runs.{completed}
use Rattle.ccsl_kernel.specs.Verdict.{Run, Violated, verdict}
use Rattle.ccsl_kernel.specs.Cells.{cells, cells_in}

abbrev num : ℕ → NumTerm
num n = record { first = prim.Num n; rest = [] }

abbrev param : ℕ → NumTerm
param i = record { first = prim.Param i; rest = [] }

abbrev clock : ℕ → Expression
clock x = EName (Clock x)

-- a system of declared clocks, definitions and constraints, with no words and no groups
abbrev of_clocks : ℕ → List Expression → List Constraint → System
of_clocks declared definitions constraints =
    record { names = []; declared = declared; written = 0; groups = []; words = []; definitions = definitions; constraints = constraints }

-- the runs of a system with one definition, the clock behind the declared ones
abbrev defines : ℕ → Expression → List Step → List Step
defines declared e R = completed (of_clocks declared (e ∷ []) []) R

-- at which positions an expression of declared clocks is dead
abbrev deaths : ℕ → Expression → List Step → List Bool
deaths declared e T = map (λ n. dead_at (of_clocks declared [] []) T declared e [] 0 n) (steps 0 (suc (length T)))

-- clocks a, d: 0, 1; and what is defined: 2
sampled : defines 2 (EBinary op.Sampled (clock 0) (clock 1)) ((0 ∷ 1 ∷ []) ∷ (1 ∷ []) ∷ (1 ∷ []) ∷ []) ≡ (0 ∷ 1 ∷ []) ∷ (1 ∷ 2 ∷ []) ∷ (1 ∷ []) ∷ []
sampled = refl

sampled_weakly : defines 2 (EBinary op.SampledWeakly (clock 0) (clock 1))
    ((0 ∷ 1 ∷ []) ∷ (1 ∷ []) ∷ (1 ∷ []) ∷ []) ≡ (0 ∷ 1 ∷ 2 ∷ []) ∷ (1 ∷ []) ∷ (1 ∷ []) ∷ []
sampled_weakly = refl

delayed : defines 2 (EDelayed (clock 0) 2 (clock 1))
    ((0 ∷ []) ∷ (0 ∷ 1 ∷ []) ∷ (1 ∷ []) ∷ (1 ∷ []) ∷ []) ≡ (0 ∷ []) ∷ (0 ∷ 1 ∷ []) ∷ (1 ∷ 2 ∷ []) ∷ (1 ∷ 2 ∷ []) ∷ []
delayed = refl

inf : defines 2 (EBinary op.Inf (clock 0) (clock 1)) ((0 ∷ []) ∷ (1 ∷ []) ∷ (1 ∷ []) ∷ []) ≡ (0 ∷ 2 ∷ []) ∷ (1 ∷ []) ∷ (1 ∷ 2 ∷ []) ∷ []
inf = refl

upto : defines 2 (EBinary op.Upto (clock 0) (clock 1)) ((0 ∷ []) ∷ (0 ∷ 1 ∷ []) ∷ (0 ∷ []) ∷ []) ≡ (0 ∷ 2 ∷ []) ∷ (0 ∷ 1 ∷ []) ∷ (0 ∷ []) ∷ []
upto = refl

upto_dead : deaths 2 (EBinary op.Upto (clock 0) (clock 1)) ((0 ∷ []) ∷ (0 ∷ 1 ∷ []) ∷ (0 ∷ []) ∷ []) ≡ false ∷ false ∷ true ∷ true ∷ []
upto_dead = refl

-- clock a: 0
abbrev one_word : List Expression → System
one_word definitions = record (of_clocks 1 definitions []) { words = record { prefix = true ∷ false ∷ true ∷ []; period = [] } ∷ [] }

abbrev a : Step
a = 0 ∷ []

filtered : completed (one_word (EFilter (clock 0) (word.Word 0 0) ∷ [])) (a ∷ a ∷ a ∷ a ∷ []) ≡ (0 ∷ 1 ∷ []) ∷ a ∷ (0 ∷ 1 ∷ []) ∷ a ∷ []
filtered = refl

filtered_dead : map (λ n. dead_at (one_word []) (a ∷ a ∷ a ∷ a ∷ []) 1 (EFilter (clock 0) (word.Word 0 0)) [] 0 n)
    (steps 0 5) ≡ false ∷ false ∷ false ∷ true ∷ true ∷ []
filtered_dead = refl

never_then : defines 1 (EBinary op.Then ENever (clock 0)) (a ∷ a ∷ []) ≡ a ∷ a ∷ []
never_then = refl

never_then_dead : deaths 1 (EBinary op.Then ENever (clock 0)) (a ∷ a ∷ []) ≡ false ∷ false ∷ false ∷ []
never_then_dead = refl

-- y = (a await 2) then (b await 1), with a, b, y: 0, 1, 2
awaits : defines 2 (EBinary op.Then (EAwait (clock 0) (num 2)) (EAwait (clock 1) (num 1)))
    ((0 ∷ []) ∷ (0 ∷ 1 ∷ []) ∷ (1 ∷ []) ∷ []) ≡ (0 ∷ []) ∷ (0 ∷ 1 ∷ 2 ∷ []) ∷ (1 ∷ 2 ∷ []) ∷ []
awaits = refl

-- y = (a await 0) then b
await_none : defines 2 (EBinary op.Then (EAwait (clock 0) (num 0)) (clock 1)) ((1 ∷ []) ∷ (1 ∷ []) ∷ []) ≡ (1 ∷ []) ∷ (1 ∷ 2 ∷ []) ∷ []
await_none = refl

-- x = (a await 1) sup b; y = x then c, with a, b, c, x, y: 0 to 4
sup_then : completed (of_clocks 3 (EBinary op.Sup (EAwait (clock 0) (num 1)) (clock 1) ∷ EBinary op.Then (clock 3) (clock 2) ∷ []) [])
    ((0 ∷ []) ∷ (1 ∷ []) ∷ (2 ∷ []) ∷ []) ≡ (0 ∷ []) ∷ (1 ∷ 3 ∷ 4 ∷ []) ∷ (2 ∷ 4 ∷ []) ∷ []
sup_then = refl

-- period(c, n) = (c await n) then period(c, n + 1)
abbrev period : Body
period = record {
  params = kind.Clock ∷ kind.Number ∷ [];
  root = EBinary op.Then (EAwait (EName (Param 0)) (param 1))
      (ECall 0 0 (value.Clock (Param 0) ∷ value.Number (record { first = prim.Param 1; rest = (sign.Plus, prim.Num 1) ∷ [] }) ∷ []));
}

-- p = period(a, 1), with a, p: 0, 1
abbrev growing : System
growing = record (of_clocks 1 (ECall 0 0 (value.Clock (Clock 0) ∷ value.Number (num 1) ∷ []) ∷ []) []) { groups = (period ∷ []) ∷ [] }

-- at the first ten steps: the ticks 1, 3, 6 and 10 of a
growing_period : completed growing
    (a ∷ a ∷ a ∷ a ∷ a ∷ a ∷ a ∷ a ∷ a ∷ a ∷ []) ≡ (0 ∷ 1 ∷ []) ∷ a ∷ (0 ∷ 1 ∷ []) ∷ a ∷ a ∷ (0 ∷ 1 ∷ []) ∷ a ∷ a ∷ a ∷ (0 ∷ 1 ∷ []) ∷ []
growing_period = refl

-- a precedes b, with a, b: 0, 1
abbrev relates : RelationKind → System
relates k = of_clocks 2 [] (record { kind = k; left = 0; right = 1; label = [] } ∷ [])

first_formula : item_formula (relates Precedes) [] 0 0 ≡ FNot (FVar 1)
first_formula = refl

second_formula : item_formula (relates Precedes) ((0 ∷ []) ∷ []) 1 0 ≡ FTrue
second_formula = refl

abbrev row : ℕ → Step → Row
row time ticks = record { time = time; ticks = ticks }

abbrev both : Step
both = 0 ∷ 1 ∷ []

in_turn : verdict (relates Precedes) both (row 0 (0 ∷ []) ∷ row 5 (1 ∷ []) ∷ []) ≡ Run 2
in_turn = refl

one_too_many : verdict (relates Precedes) both (row 0 (0 ∷ []) ∷ row 5 (1 ∷ []) ∷ row 6 (1 ∷ []) ∷ row 7 (0 ∷ []) ∷ row 8 (1 ∷ []) ∷ []) ≡ Violated 2 6 0
one_too_many = refl

together : verdict (relates Precedes) both (row 0 both ∷ []) ≡ Violated 0 0 0
together = refl

weakly_together : verdict (relates PrecedesWeakly) both (row 0 both ∷ []) ≡ Run 1
weakly_together = refl

-- a recorded clock y = (a await 0) then b that ticks at step 0, and one that does not tick at step 1
abbrev recorded : System
recorded = of_clocks 2 (EBinary op.Then (EAwait (clock 0) (num 0)) (clock 1) ∷ []) []

too_early : verdict recorded (0 ∷ 1 ∷ 2 ∷ []) (row 0 (1 ∷ 2 ∷ []) ∷ row 1 (1 ∷ 2 ∷ []) ∷ []) ≡ Violated 0 0 0
too_early = refl

not_recorded : verdict recorded both (row 0 (1 ∷ []) ∷ row 1 (1 ∷ []) ∷ []) ≡ Run 2
not_recorded = refl

missing : verdict recorded (0 ∷ 1 ∷ 2 ∷ []) (row 0 (1 ∷ []) ∷ row 1 (1 ∷ []) ∷ []) ≡ Violated 1 1 0
missing = refl

-- cells: a delay 1 has 2, and two constraints 4; 127 times delayed 4096 over a has 8510
alternation_cells : cells (record (relates Precedes) {
  definitions = EDelay (clock 0) (num 1) ∷ [];
  constraints =
      (record { kind = Precedes; left = 0; right = 1; label = [] }) ∷ (record { kind = Precedes; left = 1; right = 2; label = [] }) ∷ [];
}) ≡ 6
alternation_cells = refl

abbrev nested : ℕ → Expression
nested zero = clock 0
nested (suc n) = EDelayed (nested n) 4096 (clock 0)

nested_cells : cells_in [] (nested 127) ≡ 8510
nested_cells = refl
