-- Which clocks are members of the sets that solve some formulas.
use Rattle.std.specs.Prelude.{◌≡◌, ℕ, ◌<◌, ◌≤◌, ◌^◌, List, [], Option, Some, None, true, length, map}
use Rattle.ccsl_base.specs.declared.limits.TheConstants.{MAX_CLOCKS}
use Rattle.ccsl_base.specs.Clocks.{ticks_in, is_ascending}
use Rattle.ccsl_formula.specs.declared.formula.Formula.{Formula as Boxed}
use Rattle.ccsl_formula.specs.declared.scope.Scope.{Scope}
use Rattle.ccsl_formula.specs.Truth.{Part, with_value}
use Rattle.ccsl_formula.specs.Known.{known}
use Rattle.ccsl_formula.specs.Formula.{Formula, in_set}
use Rattle.ccsl_formula.specs.Plain.{plain}
use Rattle.ccsl_refute.specs.Meaning.{Solves}
use Rattle.ccsl_solve.specs.Posed.{AllBelow}

-- the one value that clock x ticks
abbrev pub fixed_at : ℕ → Part
fixed_at x = with_value (known []) x true

-- the solver may be asked about the formulas
pub record CanBeAsked (scope : Scope) (formulas : List Boxed) : Type 0 where
  pub declared : scope.declared ≤ scope.named
  pub named : scope.named ≤ MAX_CLOCKS
  pub reads : AllBelow scope.named (map plain formulas)
  pub few : length formulas < 2 ^ 32

module _ (scope : Scope) (formulas : List Formula) where
  -- a set of named clocks that solves the formulas and has clock x
  pub record SolvesWith (x : ℕ) (set : List ℕ) : Type 0 where
    pub member : ticks_in x set ≡ true
    pub ascending : is_ascending set ≡ true
    pub inside : (y : ℕ) → ticks_in y set ≡ true → y < scope.named
    pub solves : Solves scope formulas (in_set set)

  -- some such set has clock x
  abbrev pub MayTick : ℕ → Type 0
  MayTick x = (set : List ℕ) × SolvesWith x set

  abbrev pub AllMayTick : List ℕ → Type 0
  AllMayTick clocks = (x : ℕ) → ticks_in x clocks ≡ true → MayTick x

  -- such a set, or none where there is none
  abbrev pub Finds : ℕ → Option (List ℕ) → Type 0
  Finds x (Some set) = SolvesWith x set
  Finds x None = MayTick x → ⊥

  -- of the clocks below n, those that some such set has
  pub record AreThoseBelow (n : ℕ) (clocks : List ℕ) : Type 0 where
    pub below : (x : ℕ) → ticks_in x clocks ≡ true → x < n
    pub may : AllMayTick clocks
    pub all : (x : ℕ) → x < n → MayTick x → ticks_in x clocks ≡ true
