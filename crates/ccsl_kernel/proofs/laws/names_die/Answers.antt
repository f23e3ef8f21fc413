-- The clocks above it change nothing.
use Rattle.std.proofs.Common.{ap, ◌∙◌}
use Rattle.ccsl_kernel.specs.Meaning.{definition_dead, dead_below}
use Rattle.ccsl_kernel.proofs.Definitions.{dead_below-at}
use Rattle.ccsl_kernel.proofs.laws.names_die.Goals as goal

pub returns : goal.returns
returns c = λ K T x y n e l is. dead_below-at K T x n y l ∙ ap (definition_dead K T (dead_below K T y) n) is
