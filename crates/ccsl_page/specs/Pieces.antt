-- The text of pieces.
use Rattle.std.specs.Prelude.{ℕ, List, [], ◌∷◌, ◌++◌, decimal, map}
use Rattle.std.specs.List.{concat}
use Rattle.ccsl_page.specs.declared.page.Piece.{Piece}
use Rattle.ccsl_page.specs.declared.page.Piece.TheVariants as piece

abbrev pub piece_text : Piece → List ℕ
piece_text (piece.Text text) = text.now
piece_text (piece.Name name) = name.now
piece_text (piece.Number n) = decimal n

abbrev pub piece_texts : List Piece → List (List ℕ)
piece_texts pieces = map piece_text pieces

-- one behind the other, and a line feed
abbrev pub line : List (List ℕ) → List ℕ
line texts = concat texts ++ 10 ∷ []
