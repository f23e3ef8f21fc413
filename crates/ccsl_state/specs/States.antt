-- The states of a system: a tree for each definition, in the order of their clocks, and the set of dead clocks.
--     trees_in K earlier es row      the trees of definitions in their regions, one behind the other
--     next_all K s known x ts      the trees after a step, where known has the dead ones after it of the clocks before x
--     deaths_from known x ts      the dead ones of all clocks
--     derived_in ts x s      the full step that declared ticks give
--     passed_all K s known x ts      the trees after that full step, whose ticks are found on the way
--     trees_after K T      the trees after the steps T
use Rattle.std.specs.Prelude.{ℕ, suc, ◌+◌, List, [], ◌∷◌, Bool, true, false, length, drop}
use Rattle.ccsl_base.specs.Clocks.{with_clock}
use Rattle.ccsl_formula.specs.Formula.{eval}
use Rattle.ccsl_kernel.specs.Syntax.{Expression, System}
use Rattle.ccsl_kernel.specs.Cells.{cells_in}
use Rattle.ccsl_kernel.specs.Lives.{Step}
use Rattle.ccsl_kernel.specs.Meaning.{dead_below}
use Rattle.ccsl_state.specs.Tree.{Tree, opening, next, formula_of, dead_of}
use Rattle.ccsl_state.specs.Grown.{grown}
use Rattle.ccsl_state.specs.Layout.{read}
use Rattle.ccsl_state.specs.Moves.{gone_in}

-- the set with clock x, or without it
abbrev pub put : Bool → ℕ → List ℕ → List ℕ
put true x s = with_clock x s
put false x s = s

abbrev pub cells_from : List ℕ → List Expression → ℕ
cells_from earlier [] = 0
cells_from earlier (e ∷ es) = cells_in earlier e + cells_from earlier es

abbrev pub next_all : System → Step → List ℕ → ℕ → List Tree → List Tree
next_all K s known x [] = []
next_all K s known x (t ∷ ts) =
    let t' = next K s (gone_in known) t in t' ∷ next_all K s (put (dead_of (gone_in known) t') x known) (suc x) ts

abbrev pub deaths_from : List ℕ → ℕ → List Tree → List ℕ
deaths_from known x [] = known
deaths_from known x (t ∷ ts) = deaths_from (put (dead_of (gone_in known) t) x known) (suc x) ts

abbrev pub derived_in : List Tree → ℕ → Step → Step
derived_in [] x s = s
derived_in (t ∷ ts) x s = derived_in ts (suc x) (put (eval (formula_of t) s) x s)

abbrev pub passed_all : System → Step → List ℕ → ℕ → List Tree → List Tree
passed_all K s known x [] = []
passed_all K s known x (t ∷ ts) =
    let t' = next K s (gone_in known) t in
    t' ∷ passed_all K (put (eval (formula_of t) s) x s) (put (dead_of (gone_in known) t') x known) (suc x) ts

-- where each definition's region begins
abbrev pub places_from : List ℕ → ℕ → List Expression → List ℕ
places_from earlier k [] = []
places_from earlier k (e ∷ es) = k ∷ places_from earlier (k + cells_in earlier e) es

module _ (K : System) where
  abbrev pub trees_in : List ℕ → List Expression → List ℕ → List Tree
  trees_in earlier [] row = []
  trees_in earlier (e ∷ es) row = read K earlier e [] row ∷ trees_in earlier es (drop (cells_in earlier e) row)

  abbrev pub opened_all : List Expression → List Tree
  opened_all [] = []
  opened_all (e ∷ es) = opening K e [] ∷ opened_all es

  -- the tree of the definition e of clock x after the steps T
  abbrev pub tree_after : List Step → ℕ → Expression → Tree
  tree_after T x e = grown K T (dead_below K T x) (opening K e []) 0 (length T)

  abbrev pub trees_from : List Step → ℕ → List Expression → List Tree
  trees_from T x [] = []
  trees_from T x (e ∷ es) = tree_after T x e ∷ trees_from T (suc x) es

  abbrev pub trees_after : List Step → List Tree
  trees_after T = trees_from T K.declared K.definitions
