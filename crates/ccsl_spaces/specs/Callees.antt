-- Called relations and expressions, as definitions speak of them.
use Rattle.std.specs.Prelude.{ℕ, ◌+◌, List, [], ◌∷◌}
use Rattle.ccsl_ast.specs.Trees.{PlainDefinition, DRelation, DGroup}
use Rattle.ccsl_rules.specs.Spaces as rules
use Rattle.ccsl_rules.specs.Spaces.{Known}
use Rattle.ccsl_spaces.specs.declared.callee.Role.{Role}
use Rattle.ccsl_spaces.specs.declared.callee.Role.TheVariants.{Relation, Member}
use Rattle.ccsl_spaces.specs.declared.callee.Callee.{Callee}

abbrev pub seen_role : Role → rules.Role
seen_role Relation = rules.relation
seen_role (Member group number) = rules.member group number

abbrev pub seen_callee : Callee → rules.Callee
seen_callee c = record { role = seen_role c.role; block = c.block; params = c.params.now }

abbrev pub seen_call : Known Callee → Known rules.Callee
seen_call k = record { name = k.name; since = k.since; what = seen_callee k.what }

-- the number of the next group
abbrev pub group_after : ℕ → PlainDefinition → ℕ
group_after group (DRelation name params lines) = group
group_after group (DGroup members) = group + 1

abbrev pub groups_after : ℕ → List PlainDefinition → ℕ
groups_after group [] = group
groups_after group (b ∷ bs) = groups_after (group_after group b) bs
