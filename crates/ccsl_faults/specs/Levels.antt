-- Levels of the program's types, as definitions speak of them.
use Rattle.std.specs.Prelude.{ℕ, List, [], map}
use Rattle.ccsl_ast.specs.declared.spot.Spot.{Spot}
use Rattle.ccsl_ast.specs.Trees.{PlainDefinition}
use Rattle.ccsl_rules.specs.Spaces.{Known, Callee}
use Rattle.ccsl_rules.specs.Levels as rules
use Rattle.ccsl_rules.specs.Levels.{levels, level_in}
use Rattle.ccsl_kernel.specs.Cells.{greatest}
use Rattle.ccsl_rules.specs.Blocks as blocks
use Rattle.ccsl_faults.specs.declared.levels.Sort.{Sort}
use Rattle.ccsl_faults.specs.declared.levels.Sort.TheVariants.{Groups, Relations}
use Rattle.ccsl_faults.specs.declared.levels.Heights.{Heights}

abbrev pub seen_sort : Sort → rules.Sort
seen_sort Groups = rules.groups
seen_sort Relations = rules.relations

abbrev pub seen_heights : Heights → blocks.Heights
seen_heights h = record { groups = h.groups.items; relations = h.relations.items }

-- the levels of all definitions, of both sorts
abbrev pub heights_of : List (Known Callee) → List PlainDefinition → blocks.Heights
heights_of calls blocks = record { groups = levels rules.groups calls [] blocks; relations = levels rules.relations calls [] blocks }

-- the greatest level of what some names call
abbrev pub height_of : List (Known Callee) → List ℕ → List Spot → ℕ
height_of calls seen names = greatest (map (λ s. level_in calls seen s.name) names)
