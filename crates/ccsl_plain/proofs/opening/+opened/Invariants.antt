-- A call takes one off the level, and its body is at most MAX_LEVELS + 1 deep.
use Rattle.std.proofs.Common.{◌+◌, ◌*◌}
use Rattle.ccsl_base.specs.declared.limits.TheConstants.{MAX_LEVELS}
use Rattle.ccsl_kernel.specs.Plain.{plain_expr}
use Rattle.ccsl_kernel.specs.Deep.{deep}
use Rattle.ccsl_plain.proofs.opening.+opened.Given as goal

abbrev pub decreases-opened : goal.decreases-opened
decreases-opened l = l.level * (MAX_LEVELS + 2) + deep (plain_expr l.e.now)
