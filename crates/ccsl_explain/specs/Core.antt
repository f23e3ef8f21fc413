-- WHICH ITEMS BLOCK A STEP, given the formulas of all items; an item goes by its place in that list. This project's own.
use Rattle.std.specs.Prelude.{ℕ, ◌<◌, ◌≡◌, ◌⊎◌, List, true, Some, All, Contains, length, slice_get}
use Rattle.ccsl_base.specs.Clocks.{ticks_in, is_ascending}
use Rattle.ccsl_formula.specs.declared.scope.Scope.{Scope}
use Rattle.ccsl_formula.specs.Truth.{Assignment}
use Rattle.ccsl_formula.specs.Formula.{Formula, truth, in_set}

-- the items that stand beside item i when its turn comes: the members of the core below it, and all items above it
abbrev pub BesideIt : List ℕ → ℕ → ℕ → Type 0
BesideIt core i j = (Contains core j × (j < i)) ⊎ (i < j)

module _ (scope : Scope) (formulas : List Formula) where
  -- a declared clock ticks, and the formula of each of these items is true
  pub record Satisfies (IsAmong : ℕ → Type 0) (v : Assignment) : Type 0 where
    pub member : (x : ℕ) × (x < scope.declared) × (v x ≡ true)
    pub each : (i : ℕ) (f : Formula) → IsAmong i → slice_get formulas i ≡ Some f → truth f v ≡ true

  -- these items block: no set with a declared member satisfies them together
  abbrev pub Block : (ℕ → Type 0) → Type 0
  Block IsAmong = (set : List ℕ) → Satisfies IsAmong (in_set set) → ⊥

  -- these items do not block: a set of named clocks satisfies them together
  pub record AreOpen (IsAmong : ℕ → Type 0) : Type 0 where
    pub set : List ℕ
    pub named : (x : ℕ) → ticks_in x set ≡ true → x < scope.named
    pub satisfies : Satisfies IsAmong (in_set set)

  -- THE CORE of items that block together. Each item in turn, from the first, is a member exactly where the members below it
  -- and all items above it do not block without it.
  pub record IsCore (core : List ℕ) : Type 0 where
    pub ascending : is_ascending core ≡ true
    pub items : All (λ i. i < length formulas) core
    pub kept : All (λ i. AreOpen (BesideIt core i)) core
    pub dropped : (i : ℕ) → i < length formulas → (Contains core i → ⊥) → Block (BesideIt core i)
