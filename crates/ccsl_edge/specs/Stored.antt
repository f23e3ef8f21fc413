-- What storing a file does to the files.
use Rattle.std.specs.Prelude.{◌≡◌, ◌≢◌, Some, ℕ, List}
use Rattle.ccsl_edge.specs.World.{file_at}

-- A file of this name was made to hold this content, and every other is as it was.
pub record Stores (name content : List ℕ) (old new : List (List ℕ × List ℕ)) : Type 0 where
  pub file : file_at new name ≡ Some content
  pub others : (other : List ℕ) → other ≢ name → file_at new other ≡ file_at old other
