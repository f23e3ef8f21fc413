-- The surroundings of a body, as definitions speak of them.
use Rattle.std.specs.Prelude.{List, map}
use Rattle.ccsl_ast.specs.declared.definition.Kind.{Kind}
use Rattle.ccsl_ast.specs.declared.definition.Param.{Param}
use Rattle.ccsl_ast.specs.Trees.{SLine, PlainMember}
use Rattle.ccsl_rules.specs.Faults.{Fault}
use Rattle.ccsl_rules.specs.Spaces.{Known}
use Rattle.ccsl_rules.specs.Uses as rules
use Rattle.ccsl_rules.specs.Blocks as blocks
use Rattle.ccsl_spaces.specs.Callees.{seen_call}
use Rattle.ccsl_faults.specs.declared.scene.Home.{Home}

-- the scene of a body's first line
abbrev pub scene_of : Home → List (Known Kind) → rules.Scene
scene_of h locals = record { locals = locals; line = 0; calls = map seen_call h.calls.now; home = h.number; levels = h.levels.now }

-- the faults of a body
abbrev pub body_faults : Home → List Param → List SLine → List Fault
body_faults h params lines = blocks.body_faults (map seen_call h.calls.now) h.number h.levels.now params lines

-- the faults of a member of a group
abbrev pub part_faults : Home → PlainMember → List Fault
part_faults h m = blocks.part_faults (map seen_call h.calls.now) h.number h.levels.now m
