-- What the sets that solve the items' formulas are to the runs of a system: sets of named clocks with a declared member that satisfy
-- every item's formula.
use Rattle.std.specs.Prelude.{◌≡◌, ◌↔◌, List, true, All, length}
use Rattle.std.specs.List.{list_all}
use Rattle.ccsl_formula.specs.Formula.{in_set}
use Rattle.ccsl_formula.specs.Variables.{ReadsBelow}
use Rattle.ccsl_refute.specs.Meaning.{Solves, Blocks}
use Rattle.ccsl_kernel.specs.Syntax.{System}
use Rattle.ccsl_kernel.specs.Lives.{Step}
use Rattle.ccsl_kernel.specs.Runs.{IsRun, IsAdmissible, declared_part, full_step, is_named}
use Rattle.ccsl_items.specs.Formulas.{item_formulas, scope_of}

module _ (K : System) where
  -- a run of sets of named clocks
  pub record IsNamedRun (T : List Step) : Type 0 where
    pub run : IsRun K T
    pub named : list_all (is_named K) T ≡ true

  -- u is a set of named clocks that solves the items' formulas after the steps T
  pub record IsSolution (T : List Step) (u : Step) : Type 0 where
    pub named : is_named K u ≡ true
    pub solves : Solves (scope_of K) (item_formulas K T) (in_set u)

  -- THE ADMISSIBLE SETS AFTER A RUN are the declared members of the solutions
  abbrev pub AdmissibleSetsSolve : Type 0
  AdmissibleSetsSolve = (T : List Step) → IsNamedRun T → (s : Step) →
      IsAdmissible K T s ↔ ((u : Step) × IsSolution T u × (declared_part K u ≡ s))

  -- A SOLUTION IS A FULL STEP, of itself and of its declared members, by which the run goes on
  pub record IsFullStep (T : List Step) (u : Step) : Type 0 where
    pub itself : full_step K T u ≡ u
    pub declared : full_step K T (declared_part K u) ≡ u

  abbrev pub SolutionsAreFull : Type 0
  SolutionsAreFull = (T : List Step) → IsNamedRun T → (u : Step) → IsSolution T u → IsFullStep T u

  -- WHERE NO SET SOLVES THE ITEMS' FORMULAS after a run, no set is admissible
  abbrev pub BlockedRunsEnd : Type 0
  BlockedRunsEnd = (T : List Step) → IsNamedRun T → Blocks (scope_of K) (item_formulas K T) → (s : Step) → IsAdmissible K T s → ⊥

  -- THE ITEMS' FORMULAS READ NAMED CLOCKS ALONE
  abbrev pub FormulasReadNamed : Type 0
  FormulasReadNamed = (T : List Step) → All (ReadsBelow (length K.names)) (item_formulas K T)
