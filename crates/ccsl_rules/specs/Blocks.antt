-- The faults of lines, definitions and files.
use Rattle.std.specs.Prelude.{ℕ, ◌+◌, List, [], ◌∷◌, ◌++◌, length, take, drop, map, flat_map, true, Option, nat_eq}
use Rattle.ccsl_base.specs.declared.limits.TheConstants.{MAX_PARAMS}
use Rattle.ccsl_ast.specs.declared.spot.Spot.{Spot}
use Rattle.ccsl_ast.specs.declared.definition.Param.{Param}
use Rattle.ccsl_ast.specs.declared.definition.Kind.TheVariants as kind
use Rattle.ccsl_ast.specs.declared.line.Relation.{Relation}
use Rattle.ccsl_ast.specs.declared.line.Relation.TheVariants as rel
use Rattle.ccsl_ast.specs.Trees.{Line, LDefine, LConstraint, LCall, SLine, SClocks, SLineOf, PlainMember, PlainDefinition, DRelation, DGroup, PlainFile}
use Rattle.ccsl_kernel.specs.declared.position.Position.TheVariants.{Inner, Tail}
use Rattle.ccsl_rules.specs.Faults.{Fault, least, where_so, Arguments}
use Rattle.ccsl_rules.specs.Spaces.{Known, Callee, repeated, spots, params_space, lines_space, calls_space}
use Rattle.ccsl_rules.specs.Levels.{groups, relations, levels}
use Rattle.ccsl_rules.specs.Uses.{Scene, used_as, call_faults, expr_faults}

-- a bound of precedence is at least 1
abbrev pub relation_faults : Relation → List Fault
relation_faults (rel.PrecedesWithin at m) = where_so (nat_eq m 0) Arguments at
relation_faults r = []

abbrev pub line_faults : Scene → Line → List Fault
line_faults S (LDefine s e) = expr_faults S Inner e
line_faults S (LConstraint a r b) = used_as S kind.Clock a ++ relation_faults r ++ used_as S kind.Clock b
line_faults S (LCall s args) = call_faults S true Inner s args

abbrev pub entry_faults : Scene → SLine → List Fault
entry_faults S (SClocks names) = []
entry_faults S (SLineOf l) = line_faults S l

-- the lines of a body, from its line number S.line on
abbrev pub entries_faults : Scene → ℕ → List SLine → List Fault
entries_faults S line [] = []
entries_faults S line (e ∷ es) = entry_faults (record S { line = line }) e ++ entries_faults S (line + 1) es

-- a ninth parameter, and those after it
abbrev pub params_faults : List Param → List Fault
params_faults params = flat_map (λ p. where_so true Arguments p.name.at) (drop MAX_PARAMS params)

-- a body: its parameters, the names that it declares, and its lines
abbrev pub body_faults : List (Known Callee) → ℕ → List ℕ → List Param → List SLine → List Fault
body_faults calls home levels params entries =
    let locals = params_space params ++ lines_space 0 entries in
    params_faults params ++ repeated [] (spots locals)
    ++ entries_faults (record { locals = locals; line = 0; calls = calls; home = home; levels = levels }) 0 entries

abbrev pub part_faults : List (Known Callee) → ℕ → List ℕ → PlainMember → List Fault
part_faults calls home levels p =
    let locals = params_space p.params in
    params_faults p.params ++ repeated [] (spots locals)
    ++ expr_faults (record { locals = locals; line = 0; calls = calls; home = home; levels = levels }) Tail p.body

-- the levels of all definitions, of both sorts
pub record Heights : Type 0 where
  pub groups : List ℕ
  pub relations : List ℕ

abbrev pub block_faults : List (Known Callee) → Heights → ℕ → PlainDefinition → List Fault
block_faults calls heights home (DRelation name params lines) = body_faults calls home (take home heights.relations) params (map SLineOf lines)
block_faults calls heights home (DGroup members) = flat_map (part_faults calls home (take home heights.groups)) members

abbrev pub blocks_faults : List (Known Callee) → Heights → ℕ → List PlainDefinition → List Fault
blocks_faults calls heights home [] = []
blocks_faults calls heights home (b ∷ bs) = block_faults calls heights home b ++ blocks_faults calls heights (home + 1) bs

-- the names that definitions declare, in text order
abbrev pub heads : PlainDefinition → List Spot
heads (DRelation name params lines) = name ∷ []
heads (DGroup members) = map (λ m. m.name) members

-- ALL FAULTS of a file behind a library
abbrev pub faults : PlainFile → PlainFile → List Fault
faults library file =
    let blocks = library.definitions ++ file.definitions in
    let calls = calls_space 0 0 blocks in
    let heights : Heights = record { groups = levels groups calls [] blocks; relations = levels relations calls [] blocks } in
    repeated (map (λ s. s.name) (flat_map heads library.definitions)) (flat_map heads file.definitions)
    ++ blocks_faults calls heights (length library.definitions) file.definitions
    ++ body_faults calls (length blocks) [] [] file.lines

-- the least place, and at one place the order of the table
abbrev pub first_fault : PlainFile → PlainFile → Option Fault
first_fault library file = least (faults library file)
