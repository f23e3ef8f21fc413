-- A line of report: pieces of text, one behind the other, and a line feed.
use Rattle.std.specs.Prelude.{ℕ, List, [], ◌∷◌, ◌++◌}
use Rattle.std.specs.List.{concat}

abbrev pub line : List (List ℕ) → List ℕ
line pieces = concat pieces ++ 10 ∷ []
