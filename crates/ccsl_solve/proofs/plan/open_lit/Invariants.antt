use Rattle.std.proofs.Common.{◌≢◌, ◌<◌, ℕ}
use Rattle.ccsl_formula.specs.declared.truth3.Truth3.TheVariants.{Open}
use Rattle.ccsl_formula.specs.Known.{known}
use Rattle.ccsl_solve.proofs.plan.open_lit.Given as goal

abbrev pub invariant-loop-clock : goal.invariant-loop-clock
invariant-loop-clock l = (x : ℕ) → x < l.clock → known l.part x ≢ Open
