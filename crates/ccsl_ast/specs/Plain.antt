-- The trees of the program without where they lie in memory.
use Rattle.std.specs.Prelude.{ℕ, List, map}
use Rattle.ccsl_ast.specs.declared.tree.Tree.{Tree, Binary', Delay', Await', Filter', Delayed', If'}
use Rattle.ccsl_ast.specs.declared.tree.Tree.TheVariants.{Name, Call, Never}
use Rattle.ccsl_ast.specs.declared.line.Relation.{Relation}
use Rattle.ccsl_ast.specs.declared.line.RelationLine.{RelationLine}
use Rattle.ccsl_ast.specs.declared.line.RelationLine.TheVariants.{Define, Constraint}
use Rattle.ccsl_ast.specs.declared.line.RelationLine.TheVariants as line
use Rattle.ccsl_ast.specs.declared.line.SystemLine.{SystemLine}
use Rattle.ccsl_ast.specs.declared.line.SystemLine.TheVariants.{Clocks, Line as OfLine}
use Rattle.ccsl_ast.specs.declared.definition.Member.{Member}
use Rattle.ccsl_ast.specs.declared.definition.Definition.{Definition}
use Rattle.ccsl_ast.specs.declared.definition.Definition.TheVariants as definition
use Rattle.ccsl_ast.specs.Trees.{Expression, EName, ECall, ENever, EBinary, EDelay, EAwait, EFilter, EDelayed, EIf, Line, LDefine, LConstraint, LCall, SLine}
use Rattle.ccsl_ast.specs.Trees.{SClocks, SLineOf, PlainMember, PlainDefinition, DRelation, DGroup, PlainFile}

abbrev pub plain : Tree → Expression
plain (Name x) = EName x
plain (Call x args) = ECall x args
plain Never = ENever
plain (Binary' op p a q d) = EBinary op (plain a) (plain d)
plain (Delay' p a m) = EDelay (plain a) m
plain (Await' p a m) = EAwait (plain a) m
plain (Filter' p a w) = EFilter (plain a) w
plain (Delayed' p a at m q d) = EDelayed (plain a) at m (plain d)
plain (If' t p a q d) = EIf t (plain a) (plain d)

abbrev pub plain_line : RelationLine → Line
plain_line (Define x e) = LDefine x (plain e)
plain_line (Constraint a r b) = LConstraint a r b
plain_line (line.Call x args) = LCall x args

abbrev pub plain_sline : SystemLine → SLine
plain_sline (Clocks xs) = SClocks xs
plain_sline (OfLine l) = SLineOf (plain_line l)

abbrev pub plain_member : Member → PlainMember
plain_member m = record { name = m.name; params = m.params; body = plain m.body }

abbrev pub plain_definition : Definition → PlainDefinition
plain_definition (definition.Relation x params lines) = DRelation x params (map plain_line lines)
plain_definition (definition.Group members) = DGroup (map plain_member members)

abbrev pub plain_parts : ℕ → List Definition → List SystemLine → PlainFile
plain_parts version definitions lines = record { version = version; definitions = map plain_definition definitions; lines = map plain_sline lines }
