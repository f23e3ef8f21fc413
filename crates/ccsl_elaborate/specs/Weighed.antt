-- What is weighed of a file: its clocks, its constraints, or the cells of its states.
use Rattle.std.specs.Prelude.{ℕ, List, ◌++◌}
use Rattle.ccsl_ast.specs.Trees.{Expression, PlainFile}
use Rattle.ccsl_rules.specs.Spaces.{Known, Callee, calls_space}
use Rattle.ccsl_rules.specs.Counts.{Weights}
use Rattle.ccsl_elaborate.specs.declared.counts.Total.{Total}
use Rattle.ccsl_elaborate.specs.declared.counts.Total.TheVariants as of
use Rattle.ccsl_elaborate.specs.TreeCells.{tree_cells}

-- what a definition, by its expression, and what a constraint adds to a total
abbrev pub definition_weight : List (Known Callee) → Total → Expression → ℕ
definition_weight calls of.Clocks = λ e. 1
definition_weight calls of.Constraints = λ e. 0
definition_weight calls (of.Cells groups) = tree_cells calls groups.now

abbrev pub constraint_weight : Total → ℕ
constraint_weight of.Clocks = 0
constraint_weight of.Constraints = 1
constraint_weight (of.Cells groups) = 2

abbrev pub weights_of : List (Known Callee) → Total → Weights
weights_of calls total = record { definition = definition_weight calls total; constraint = constraint_weight total }

-- what a file behind a library calls
abbrev pub calls_of : PlainFile → PlainFile → List (Known Callee)
calls_of library file = calls_space 0 0 (library.definitions ++ file.definitions)
