-- What is in the grammar, and where a list of terminals leaves it.
use Rattle.std.specs.Prelude.{◌≡◌, ℕ, List, [], ◌∷◌, ◌++◌, Some, None}
use Rattle.ccsl_ast.specs.Trees.{PlainFile}
use Rattle.ccsl_grammar.specs.Terminals.{Terminal}
use Rattle.ccsl_grammar.specs.Grammar.{Derivation, file_spelled, file_tree}
use Rattle.ccsl_grammar.specs.Deep.{file_deep}

-- THE GRAMMAR AS A RELATION: these terminals have this tree
pub record IsFile (ts : List Terminal) (f : PlainFile) : Type 0 where
  pub derivation : Derivation
  pub spelled : file_spelled derivation ≡ ts
  pub tree : file_tree derivation ≡ f

-- these terminals have this tree, and none of their expressions has a level above room
pub record Parses (room : ℕ) (ts : List Terminal) (f : PlainFile) : Type 0 where
  pub is : IsFile ts f
  pub none_deep : file_deep room is.derivation [] ≡ None

-- these terminals can be continued to a file
pub record CanGoOn (front : List Terminal) : Type 0 where
  pub more : List Terminal
  pub tree : PlainFile
  pub is : IsFile (front ++ more) tree

-- behind front begins an expression of level room + 1 of some file that goes on so, and none before
pub record DeepAt (room : ℕ) (front rest : List Terminal) : Type 0 where
  pub derivation : Derivation
  pub first : Terminal
  pub behind : List Terminal
  pub more : List Terminal
  pub rest_is : rest ≡ first ∷ behind
  pub spelled : file_spelled derivation ≡ front ++ first ∷ more
  pub deep : file_deep room derivation [] ≡ Some (first ∷ more)

-- front can be continued; with the next terminal it can't, or at the end it is no file; and no expression stands too deep
pub record FailsAt (room : ℕ) (front rest : List Terminal) : Type 0 where
  pub before : CanGoOn front
  pub no_more : (t : Terminal) (us : List Terminal) → rest ≡ t ∷ us → CanGoOn (front ++ t ∷ []) → ⊥
  pub no_end : (f : PlainFile) → rest ≡ [] → IsFile front f → ⊥
  pub none_deep : (x y : List Terminal) → front ++ rest ≡ x ++ y → DeepAt room x y → ⊥
