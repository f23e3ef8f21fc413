-- The places of names in an index, and what it is to have the first place of each name of a list.
use Rattle.std.specs.Prelude.{◌≡◌, ℕ, List, Option, bytes_eq}
use Rattle.std.specs.Map.{lookup}
use Rattle.ccsl_base.specs.Names.{find_name}

-- the place that a name has
abbrev pub place_of : List ℕ → List (List ℕ × ℕ) → Option ℕ
place_of name index = lookup (bytes_eq name) index

-- each name has the place at which the list has it first
abbrev pub HasFirsts : List (List ℕ × ℕ) → List (List ℕ) → Type 0
HasFirsts index names = (name : List ℕ) → place_of name index ≡ find_name name names
