-- THE FORMULAS OF ALL ITEMS at the step after some steps, in the order of the items.
use Rattle.std.specs.Prelude.{List, length, map}
use Rattle.ccsl_formula.specs.declared.scope.Scope.{Scope}
use Rattle.ccsl_formula.specs.Formula.{Formula}
use Rattle.ccsl_kernel.specs.Syntax.{System, item_count}
use Rattle.ccsl_kernel.specs.Lives.{Step, steps}
use Rattle.ccsl_kernel.specs.Items.{item_formula}

abbrev pub item_formulas : System → List Step → List Formula
item_formulas K T = map (item_formula K T (length T)) (steps 0 (item_count K))

-- the declared clocks, and all named ones
abbrev pub scope_of : System → Scope
scope_of K = record { declared = K.declared; named = length K.names }
