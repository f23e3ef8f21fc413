-- QUIET TREES: what hears nothing tells nothing, and stays as it is.
--     reads K i y      whether definition number i reads clock y: its expression names it
--     is_settled gone t      whether no `then` in t has a left side that has ended while its right side is not born
--     IsQuiet      a tree in a step that has none of its clocks and with which none of them dies; gone tells which are dead before
--         the step, and gone' after it
use Rattle.std.specs.Prelude.{◌≡◌, ℕ, List, Bool, true, false, not, ◌&&◌, Option, Some, None, slice_get}
use Rattle.ccsl_base.specs.Clocks.{ticks_in}
use Rattle.ccsl_formula.specs.Formula.{eval}
use Rattle.ccsl_kernel.specs.Syntax.{Expression, System}
use Rattle.ccsl_kernel.specs.Lives.{Step}
use Rattle.ccsl_state.specs.Tree.{Tree, TName, TNever, TOne, TTwo, TThen, opening, next, formula_of, dead_of}
use Rattle.ccsl_state.specs.States.{tree_after}
use Rattle.ccsl_state.specs.Within.{TreeWithin}
use Rattle.ccsl_state.specs.Reach.{names_clock}

abbrev pub named_by : Option Expression → ℕ → Bool
named_by None y = false
named_by (Some e) y = names_clock e y

abbrev pub reads : System → ℕ → ℕ → Bool
reads K i y = named_by (slice_get K.definitions i) y

-- the tree of a definition reads what the definition does, after any steps
abbrev pub ReadsNoMore : System → Type 0
ReadsNoMore K = (i : ℕ) (e : Expression) (T : List Step) (x : ℕ) → slice_get K.definitions i ≡ Some e
    → TreeWithin (λ y. reads K i y ≡ true) (tree_after K T x e)

abbrev pub IsUnheard : Step → Tree → Type 0
IsUnheard s t = TreeWithin (λ x. ticks_in x s ≡ false) t

abbrev pub is_settled : (ℕ → Bool) → Tree → Bool
is_settled gone (TName x) = true
is_settled gone TNever = true
is_settled gone (TOne o a) = is_settled gone a
is_settled gone (TTwo o a d) = is_settled gone a && is_settled gone d
is_settled gone (TThen a d ρ) = not (dead_of gone a) && is_settled gone a

pub record IsQuiet (s : Step) (gone gone' : ℕ → Bool) (t : Tree) : Type 0 where
  pub unheard : IsUnheard s t
  pub alive : TreeWithin (λ x. gone x ≡ gone' x) t
  pub settled : is_settled gone t ≡ true

-- NOTHING HEARD, NOTHING TOLD
abbrev pub TellsNothing : Step → Tree → Type 0
TellsNothing s t = IsUnheard s t → eval (formula_of t) s ≡ false

-- NOTHING HEARD, NOTHING MOVED
pub record StaysAsItIs (K : System) (s : Step) (gone gone' : ℕ → Bool) (t : Tree) : Type 0 where
  pub tree : next K s gone' t ≡ t
  pub dead : dead_of gone' t ≡ dead_of gone t
  pub settled : is_settled gone' t ≡ true

-- what is still to be born in a tree is settled at its birth
abbrev pub BearsSettled : System → (ℕ → Bool) → Tree → Type 0
BearsSettled K gone (TName x) = Unit {0}
BearsSettled K gone TNever = Unit {0}
BearsSettled K gone (TOne o a) = BearsSettled K gone a
BearsSettled K gone (TTwo o a d) = BearsSettled K gone a × BearsSettled K gone d
BearsSettled K gone (TThen a d ρ) = BearsSettled K gone a × (is_settled gone (opening K d ρ) ≡ true)

-- UNSETTLED LASTS ONE STEP: after each step a tree is settled, but for what was born just there
abbrev pub Settles : System → Step → (ℕ → Bool) → Tree → Type 0
Settles K s gone t = BearsSettled K gone t → is_settled gone (next K s gone t) ≡ true
