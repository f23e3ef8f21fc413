-- What is asked of the solver, and whether there is a step. No public contract speaks of it.
use Rattle.std.specs.Prelude.{ℕ, ◌<◌, ◌≤◌, ◌^◌, ◌≡◌, List, true, length}
use Rattle.ccsl_base.specs.Clocks.{ticks_in}
use Rattle.ccsl_base.specs.declared.limits.TheConstants.{MAX_CLOCKS}
use Rattle.ccsl_formula.specs.declared.scope.Scope.{Scope}
use Rattle.ccsl_formula.specs.Formula.{Formula, in_set}
use Rattle.ccsl_refute.specs.Meaning.{Solves}
use Rattle.ccsl_solve.specs.Posed.{AllBelow}

-- the conditions of a question
pub record IsAsked (scope : Scope) (formulas : List Formula) : Type 0 where
  pub declared : scope.declared ≤ scope.named
  pub named : scope.named ≤ MAX_CLOCKS
  pub reads : AllBelow scope.named formulas
  pub few : length formulas < 2 ^ 32

-- a set of named clocks has a declared member and satisfies all formulas
pub record HasStep (scope : Scope) (formulas : List Formula) : Type 0 where
  pub set : List ℕ
  pub named : (x : ℕ) → ticks_in x set ≡ true → x < scope.named
  pub solves : Solves scope formulas (in_set set)
