-- The laws of the meaning, as statements on a system.
use Rattle.std.specs.Prelude.{◌≡◌, ◌≢◌, ◌↔◌, ℕ, ◌+◌, ◌-◌, ◌<◌, ◌≤◌, List, [], true, false, Some, length, map, slice_index}
use Rattle.std.specs.List.{list_all}
use Rattle.ccsl_base.specs.declared.rows.Row.{Row}
use Rattle.ccsl_formula.specs.Formula.{eval}
use Rattle.ccsl_formula.specs.Variables.{ReadsBelow}
use Rattle.ccsl_kernel.specs.Syntax.{Expression, System, item_count, definition_of}
use Rattle.ccsl_kernel.specs.Actuals.{Actual}
use Rattle.ccsl_kernel.specs.Ticks.{count}
use Rattle.ccsl_kernel.specs.Lives.{Step, Life, step_at, operand}
use Rattle.ccsl_kernel.specs.Meaning.{dead_below, meaning, formula_at}
use Rattle.ccsl_kernel.specs.Deaths.{dead_at}
use Rattle.ccsl_kernel.specs.Guarded.{IsAllowed}
use Rattle.ccsl_kernel.specs.Items.{clock_count, item_formula}
use Rattle.ccsl_kernel.specs.Runs.{IsRun, ObeysDefinitions, IsAdmissible, declared_part, is_declared, is_named, completed}
use Rattle.ccsl_kernel.specs.Verdict.{Run, Violated, is_violated, verdict}
use Rattle.ccsl_kernel.specs.FirstViolation.{IsFirstViolation}
use Rattle.ccsl_kernel.specs.Rows.{SameLife, IsTable, CallsAreBodies}

-- COUNTS ARE AT MOST AS MANY AS THE STEPS, of a clock, and of an operand since its birth
pub record CountsAreBounded : Type 0 where
  pub clocks : (T : List Step) (x n : ℕ) → clock_count T x n ≤ n
  pub operands : (T : List Step) (L : Life) (b n : ℕ) → count (operand T L b n).ticks ≤ n - b

module _ (K : System) where
  -- a meaning of the expressions in the definition of clock x that obeys each row of the table, calls included
  pub record ObeysTable (T : List Step) (x : ℕ) (M : Expression → List Actual → Life) : Type 0 where
    pub rows : IsTable K T (dead_below K T x) M
    pub calls : CallsAreBodies K T M

  -- THE ROWS HOLD
  abbrev pub RowsHold : Type 0
  RowsHold = (T : List Step) (x : ℕ) → ObeysTable T x (meaning K T x)

  -- a name's row says when it is dead: where the definition of its clock is
  abbrev pub NamesDie : Type 0
  NamesDie = (T : List Step) (x y n : ℕ) (e : Expression) → y < x → definition_of K y ≡ Some e →
      dead_below K T x n y ≡ dead_at K T y e [] 0 n

  -- THE ROWS DETERMINE THE MEANING
  abbrev pub RowsDetermine : Type 0
  RowsDetermine = (T : List Step) (x : ℕ) (M : Expression → List Actual → Life) → ObeysTable T x M →
      (e : Expression) (ρ : List Actual) → IsAllowed K e → SameLife T (M e ρ) (meaning K T x e ρ)

  -- ONLY THE FIRST n STEPS MATTER to the meaning of an expression at n
  abbrev pub FirstStepsMatter : Type 0
  FirstStepsMatter = (T T' : List Step) (x : ℕ) (e : Expression) (ρ : List Actual) (b n : ℕ) → IsAllowed K e → b ≤ n →
      n ≤ length T → n ≤ length T' → ((i : ℕ) → i < n → step_at T i ≡ step_at T' i) → meaning K T x e ρ b n ≡ meaning K T' x e ρ b n

  -- A DEFINITION'S FORMULA READS LOWER CLOCKS ONLY
  abbrev pub ReadsLower : Type 0
  ReadsLower = (T : List Step) (x n : ℕ) (e : Expression) → definition_of K x ≡ Some e → n ≤ length T →
      ReadsBelow x (formula_at K T x e [] 0 n)

  -- WHAT IS DEAD DOES NOT TICK AND STAYS DEAD, in a list that obeys the definitions, at every birth
  abbrev pub DeadStays : Type 0
  DeadStays = (T : List Step) (x : ℕ) (e : Expression) (ρ : List Actual) (b n : ℕ) → ObeysDefinitions K T → IsAllowed K e → b ≤ n →
      n < length T → dead_at K T x e ρ b n ≡ true →
      (eval (formula_at K T x e ρ b n) (step_at T n) ≡ false) × (dead_at K T x e ρ b (n + 1) ≡ true)

  -- THE COMPLETION EXISTS: it obeys the definitions and has the declared ticks that it is made from, one step for each set
  pub record Completes (R T : List Step) : Type 0 where
    pub obeys : ObeysDefinitions K T
    pub declared : map (declared_part K) T ≡ R
    pub named : list_all (is_named K) T ≡ true

  abbrev pub CompletionExists : Type 0
  CompletionExists = (R : List Step) → list_all (is_declared K) R ≡ true → Completes R (completed K R)

  -- AND IS THE ONLY ONE: a list of sets of named clocks that obeys the definitions is the completion of its declared part
  abbrev pub CompletionOnly : Type 0
  CompletionOnly = (R T : List Step) → Completes R T → T ≡ completed K R

  -- A RUN OBEYS THE DEFINITIONS
  abbrev pub RunsObey : Type 0
  RunsObey = (T : List Step) → IsRun K T → ObeysDefinitions K T

  -- so that, of sets of named clocks, it is the completion of its declared part
  abbrev pub RunsComplete : Type 0
  RunsComplete = (T : List Step) → IsRun K T → list_all (is_named K) T ≡ true → T ≡ completed K (map (declared_part K) T)

  -- a step, a set of named clocks that satisfies every item's formula after the steps T, with these declared members
  pub record ExtendsToStep (T : List Step) (s : Step) : Type 0 where
    pub step : Step
    pub named : is_named K step ≡ true
    pub items : (i : ℕ) → i < item_count K → eval (item_formula K T (length T) i) step ≡ true
    pub declared : declared_part K step ≡ s

  -- THE ADMISSIBLE SETS AFTER A RUN are the declared members of such steps, where there is one
  abbrev pub AdmissibleSetsExtend : Type 0
  AdmissibleSetsExtend = (T : List Step) → IsRun K T → list_all (is_named K) T ≡ true → (s : Step) →
      IsAdmissible K T s ↔ ((s ≢ []) × ExtendsToStep T s)

  -- THE EMPTY SET SATISFIES EVERY ITEM'S FORMULA at every step
  abbrev pub EmptyHolds : Type 0
  EmptyHolds = (T : List Step) (n i : ℕ) → n ≤ length T → eval (item_formula K T n i) [] ≡ true

  -- THE VERDICT IS THE FIRST VIOLATION, with the row's time, or a run where there is none
  pub record VerdictIsFirst : Type 0 where
    pub run : (bound : List ℕ) (rows : List Row) →
        ((n j : ℕ) → n < length rows → j < item_count K → is_violated K bound rows n j ≡ false) → verdict K bound rows ≡ Run (length rows)
    pub violated : (bound : List ℕ) (rows : List Row) (s i : ℕ) → IsFirstViolation K bound rows s i →
        verdict K bound rows ≡ Violated s (slice_index (map (λ row. row.time) rows) s) i
