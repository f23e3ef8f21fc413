-- What the addition of a name to a table does.
use Rattle.std.specs.Prelude.{◌≡◌, ℕ, List, [], ◌∷◌, ◌++◌, true, false, Option, Some, None, length}
use Rattle.ccsl_base.specs.Names.{is_among}

-- what the addition of a name does: none where it is there, and else it stands last and its number is answered
abbrev pub IsAdded : List (List ℕ) → List (List ℕ) → List ℕ → Option ℕ → Type 0
IsAdded old new name None = (is_among name old ≡ true) × (new ≡ old)
IsAdded old new name (Some number) = (is_among name old ≡ false) × (number ≡ length old) × (new ≡ old ++ name ∷ [])
