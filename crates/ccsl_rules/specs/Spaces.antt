-- The three name spaces.
use Rattle.std.specs.Prelude.{ℕ, ◌+◌, List, [], ◌∷◌, ◌++◌, Option, map, find, bytes_eq}
use Rattle.ccsl_base.specs.Names.{is_among}
use Rattle.ccsl_ast.specs.declared.spot.Spot.{Spot}
use Rattle.ccsl_ast.specs.declared.definition.Param.{Param}
use Rattle.ccsl_ast.specs.declared.definition.Kind.{Kind}
use Rattle.ccsl_ast.specs.declared.definition.Kind.TheVariants as kind
use Rattle.ccsl_ast.specs.Trees.{LDefine, SLine, SClocks, SLineOf, PlainMember, PlainDefinition, DRelation, DGroup}
use Rattle.ccsl_rules.specs.Faults.{Fault, where_so, Duplicate}

-- a declared name: what it stands for, and the number of the first line, or definition, that may use it
pub record Known (A : Type 0) : Type 0 where
  pub name : Spot
  pub since : ℕ
  pub what : A

-- the first declaration of a name in a space
abbrev pub look : {A : Type 0} → List ℕ → List (Known A) → Option (Known A)
look name space = find (λ k. bytes_eq k.name.name name) space

-- the names that their space already has; `seen` are the names before them
abbrev pub repeated : List (List ℕ) → List Spot → List Fault
repeated seen [] = []
repeated seen (s ∷ ss) = where_so (is_among s.name seen) Duplicate s.at ++ repeated (seen ++ s.name ∷ []) ss

abbrev pub spots : {A : Type 0} → List (Known A) → List Spot
spots space = map (λ k. k.name) space

-- what a called name stands for: a relation, or a member of a group by the group's number and its own
pub data Role : Type 0 where
  relation : Role
  member : (group number : ℕ) → Role

pub record Callee : Type 0 where
  pub role : Role
  pub block : ℕ  -- the number of the definition
  pub params : List Param

-- THE SPACE OF RELATIONS AND EXPRESSIONS, from definition number `block` and group number `group` on; a definition may be used by those after it
abbrev pub parts_space : ℕ → ℕ → ℕ → List PlainMember → List (Known Callee)
parts_space block group number [] = []
parts_space block group number (p ∷ ps) =
    record { name = p.name; since = block + 1; what = record { role = member group number; block = block; params = p.params } }
    ∷ parts_space block group (number + 1) ps

abbrev pub calls_space : ℕ → ℕ → List PlainDefinition → List (Known Callee)
calls_space block group [] = []
calls_space block group (DRelation name params lines ∷ bs) =
    record { name = name; since = block + 1; what = record { role = relation; block = block; params = params } } ∷ calls_space (block + 1) group bs
calls_space block group (DGroup members ∷ bs) = parts_space block group 0 members ++ calls_space (block + 1) (group + 1) bs

-- THE SPACE OF A BODY: its parameters, and the clocks that its lines declare, from line number `line` on
abbrev pub params_space : List Param → List (Known Kind)
params_space params = map (λ p. record { name = p.name; since = 0; what = p.kind }) params

abbrev pub clock_known : ℕ → Spot → Known Kind
clock_known since s = record { name = s; since = since; what = kind.Clock }

abbrev pub declares : SLine → List Spot
declares (SClocks names) = names
declares (SLineOf (LDefine s e)) = s ∷ []
declares _ = []

abbrev pub declared_by : ℕ → SLine → List (Known Kind)
declared_by line e = map (clock_known (line + 1)) (declares e)

abbrev pub lines_space : ℕ → List SLine → List (Known Kind)
lines_space line [] = []
lines_space line (e ∷ es) = declared_by line e ++ lines_space (line + 1) es
