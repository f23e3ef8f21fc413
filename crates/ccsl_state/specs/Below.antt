-- The clocks that a state tree names, with those of the expressions that are still to be born.
use Rattle.std.specs.Prelude.{ℕ, suc, ◌<◌, List, [], ◌∷◌}
use Rattle.ccsl_state.specs.Tree.{Tree}
use Rattle.ccsl_state.specs.Within.{TreeWithin}

-- a tree names clocks below X only
abbrev pub TreeBelow : ℕ → Tree → Type 0
TreeBelow X t = TreeWithin (λ x. x < X) t

-- the tree of clock number x names lower clocks only, and so do those behind it
abbrev pub TreesBelow : ℕ → List Tree → Type 0
TreesBelow x [] = Unit {0}
TreesBelow x (t ∷ ts) = TreeBelow x t × TreesBelow (suc x) ts
