-- The nodes of operators, by their cells.
use Rattle.std.specs.Prelude.{ℕ, List, Bool, false, Option, Some, None}
use Rattle.ccsl_formula.specs.Formula.{Formula, FFalse}
use Rattle.ccsl_words.specs.Word.{BinaryWord}
use Rattle.ccsl_kernel.specs.Actuals.{word_of}
use Rattle.ccsl_state.specs.declared.node.Unary.{Unary}
use Rattle.ccsl_state.specs.declared.node.Unary.TheVariants as unary
use Rattle.ccsl_state.specs.Tree.{One, Delaying, Awaiting, Filtering, Two, two_formula, two_ticks, two_dead, Tree, TNever, TTwo}
use Rattle.ccsl_state.specs.Layout.{count_of, offset_of}

abbrev pub one_at : List BinaryWord → Unary → ℕ → One
one_at words (unary.Delay m) cell = Delaying m (count_of cell)
one_at words (unary.Await m) cell = Awaiting m (count_of cell)
one_at words (unary.Filter w) cell = let v = word_of words w in Filtering v (offset_of v cell)

-- where there is no node, it never ticks and is not dead
abbrev pub node_ticks : Option Two → Bool → Bool → Bool
node_ticks None t u = false
node_ticks (Some o) t u = two_ticks o t u

abbrev pub node_dead : Option Two → Bool → Bool → Bool
node_dead None x y = false
node_dead (Some o) x y = two_dead o x y

-- an operator's node over two trees
abbrev pub pair_at : Option Two → Tree → Tree → Tree
pair_at None a d = TNever
pair_at (Some o) a d = TTwo o a d

abbrev pub node_formula : Option Two → Formula → Formula → Formula
node_formula None f g = FFalse
node_formula (Some o) f g = two_formula o f g
