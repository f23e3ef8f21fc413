-- What a setting keeps, an atom for each name and of each name the first place; and names of which each is new.
use Rattle.std.specs.Prelude.{◌≡◌, ℕ, List, ◌∷◌, ◌++◌, false, length}
use Rattle.ccsl_base.specs.Names.{is_among}
use Rattle.ccsl_spaces.specs.Places.{HasFirsts}
use Rattle.ccsl_expand.specs.declared.atom.Atom.{Atom}

pub record HasEntries (first : List (List ℕ × ℕ)) (names : List (List ℕ)) (atoms : List Atom) : Type 0 where
  pub as_many : length names ≡ length atoms
  pub first_places : HasFirsts first names

-- each name is new behind those before it
abbrev pub AreNew : List (List ℕ) → Type 0
AreNew names = (front back : List (List ℕ)) (name : List ℕ) → names ≡ front ++ (name ∷ back) → is_among name front ≡ false
