-- Levels of groups and relations.
use Rattle.std.specs.Prelude.{ℕ, suc, List, [], ◌∷◌, ◌++◌, Option, Some, None, map, flat_map, slice_index}
use Rattle.ccsl_ast.specs.declared.spot.Spot.{Spot}
use Rattle.ccsl_ast.specs.Trees.{Expression, ECall, EBinary, EDelay, EAwait, EFilter, EDelayed, EIf, Line, LCall, PlainDefinition, DRelation, DGroup}
use Rattle.ccsl_kernel.specs.Cells.{greatest}
use Rattle.ccsl_rules.specs.Spaces.{Known, Callee, look}

-- the names that an expression calls, in text order
abbrev pub called : Expression → List Spot
called (ECall s args) = s ∷ []
called (EBinary op a d) = called a ++ called d
called (EDelay a m) = called a
called (EAwait a m) = called a
called (EFilter a w) = called a
called (EDelayed a at m d) = called a ++ called d
called (EIf q a d) = called a ++ called d
called _ = []

abbrev pub called_line : Line → List Spot
called_line (LCall s args) = s ∷ []
called_line _ = []

-- levels count among groups, or among relations
pub data Sort : Type 0 where
  groups : Sort
  relations : Sort

-- the names whose definitions count for the level of a definition: None where it has no level of this sort
abbrev pub counted : Sort → PlainDefinition → Option (List Spot)
counted groups (DRelation name params lines) = None
counted groups (DGroup members) = Some (flat_map (λ m. called m.body) members)
counted relations (DRelation name params lines) = Some (flat_map called_line lines)
counted relations (DGroup members) = None

-- the level of what a name calls, among the definitions whose levels are `seen`; 0 where it has none, or stands later
abbrev pub level_in : List (Known Callee) → List ℕ → List ℕ → ℕ
level_in calls seen name = elim (look name calls) [ None ↦ 0 | Some k ↦ slice_index seen k.what.block ]

abbrev pub level : List (Known Callee) → List ℕ → Option (List Spot) → ℕ
level calls seen None = 0
level calls seen (Some names) = suc (greatest (map (λ s. level_in calls seen s.name) names))

-- the levels of all definitions, each from those before it
abbrev pub levels : Sort → List (Known Callee) → List ℕ → List PlainDefinition → List ℕ
levels sort calls seen [] = seen
levels sort calls seen (b ∷ bs) = levels sort calls (seen ++ level calls seen (counted sort b) ∷ []) bs
