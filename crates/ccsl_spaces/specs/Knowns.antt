-- Declarations as definitions speak of them.
use Rattle.std.specs.Prelude.{ℕ, List, [], map, get_or}
use Rattle.ccsl_ast.specs.declared.spot.Spot.{Spot}
use Rattle.ccsl_spaces.specs.declared.declaration.Declaration.{Declaration}
use Rattle.ccsl_rules.specs.Spaces.{Known}

abbrev pub declared_as : {A : Type 0} → Spot → ℕ → A → Known A
declared_as name since what = record { name = name; since = since; what = what }

abbrev pub known : {T : Type 0} → Declaration T → Known T
known d = record { name = d.name.now; since = d.since; what = d.what }

-- the names of a space, in the order of declarations
abbrev pub names : {A : Type 0} → List (Known A) → List (List ℕ)
names space = map (λ k. k.name.name) space

-- the name of the declaration at a place
abbrev pub name_at : {A : Type 0} → List (Known A) → ℕ → List ℕ
name_at space place = get_or (names space) place []
