-- Where a line begins: at its first name.
use Rattle.std.specs.Prelude.{ℕ}
use Rattle.ccsl_ast.specs.declared.line.RelationLine.{RelationLine}
use Rattle.ccsl_ast.specs.declared.line.RelationLine.TheVariants.{Define, Constraint, Call}
use Rattle.ccsl_origin.specs.declared.origin.Home.{Home}
use Rattle.ccsl_origin.specs.declared.origin.Origin.{Origin}

abbrev pub offset_of : RelationLine → ℕ
offset_of (Define name tree) = name.at
offset_of (Constraint left relation right) = left.at
offset_of (Call name arguments) = name.at

abbrev pub origin_of : Home → RelationLine → Origin
origin_of home line = record { home = home; at = offset_of line }
