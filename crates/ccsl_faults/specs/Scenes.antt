-- Scenes of the program's type, as definitions speak of them.
use Rattle.std.specs.Prelude.{List, map, Bool, true, Some, None}
use Rattle.ccsl_ast.specs.declared.spot.Spot.{Spot}
use Rattle.ccsl_ast.specs.declared.term.Argument.{Argument}
use Rattle.ccsl_kernel.specs.declared.position.Position.{Position}
use Rattle.ccsl_rules.specs.Faults.{Fault, where_so, Unknown}
use Rattle.ccsl_rules.specs.Spaces.{look}
use Rattle.ccsl_rules.specs.Uses as rules
use Rattle.ccsl_spaces.specs.Callees.{seen_call}
use Rattle.ccsl_faults.specs.declared.scene.Scene.{Scene}

abbrev pub seen_scene : Scene → rules.Scene
seen_scene s = record { locals = s.locals.now; line = s.line; calls = map seen_call s.calls.now; home = s.home; levels = s.levels.now }

-- the faults of a call's name, its arguments' own aside
abbrev pub called_faults : rules.Scene → Bool → Position → Spot → List Argument → List Fault
called_faults S wants_relation p s args =
    elim (look s.name S.calls) [ None ↦ where_so true Unknown s.at | Some k ↦ rules.callee_faults S wants_relation p s args k ]
