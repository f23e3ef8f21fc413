-- The depth of an expression: the greatest level of an expression in its text. The whole has level 1, and what stands in
-- parentheses, or as a branch of an if, has a level one greater than the expression in which it stands.
use Rattle.std.specs.Prelude.{ℕ, ◌+◌, max, Bool, true, false, List, [], ◌∷◌, map, if◌then◌else◌}
use Rattle.ccsl_ast.specs.Trees.{Expression, EName, ECall, ENever, EBinary, EDelay, EAwait, EFilter, EDelayed, EIf, Line, LDefine, LConstraint, LCall, SLine}
use Rattle.ccsl_ast.specs.Trees.{SClocks, SLineOf, PlainMember, PlainDefinition, DRelation, DGroup, PlainFile}

-- whether an operand stands in parentheses: one with an operator does, and an if
abbrev pub stands_in_parens : Expression → Bool
stands_in_parens (EName x) = false
stands_in_parens (ECall x args) = false
stands_in_parens ENever = false
stands_in_parens _ = true

-- the greatest level in an operand of depth n, counted from the expression in which it stands
abbrev pub operand_depth : Expression → ℕ → ℕ
operand_depth a n = if stands_in_parens a then n else 0

abbrev pub depth : Expression → ℕ
depth (EName x) = 1
depth (ECall x args) = 1
depth ENever = 1
depth (EBinary op a d) = 1 + max (operand_depth a (depth a)) (operand_depth d (depth d))
depth (EDelay a m) = 1 + operand_depth a (depth a)
depth (EAwait a m) = 1 + operand_depth a (depth a)
depth (EFilter a w) = 1 + operand_depth a (depth a)
depth (EDelayed a at m d) = 1 + max (operand_depth a (depth a)) (operand_depth d (depth d))
depth (EIf q a d) = 1 + max (depth a) (depth d)

abbrev pub greatest : List ℕ → ℕ
greatest [] = 0
greatest (n ∷ ns) = max n (greatest ns)

abbrev pub rline_depth : Line → ℕ
rline_depth (LDefine x e) = depth e
rline_depth (LConstraint a r b) = 0
rline_depth (LCall x args) = 0

abbrev pub sline_depth : SLine → ℕ
sline_depth (SClocks xs) = 0
sline_depth (SLineOf l) = rline_depth l

abbrev pub member_depth : PlainMember → ℕ
member_depth m = depth m.body

abbrev pub definition_depth : PlainDefinition → ℕ
definition_depth (DRelation x params lines) = greatest (map rline_depth lines)
definition_depth (DGroup members) = greatest (map member_depth members)

-- the depth of a file: of its deepest expression, and 0 where it has none
abbrev pub file_depth : PlainFile → ℕ
file_depth f = max (greatest (map definition_depth f.definitions)) (greatest (map sline_depth f.lines))
