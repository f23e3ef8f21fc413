-- What is left of the sum, from the total so far, is the number.
use Rattle.std.proofs.Common.{◌≡◌, drop}
use Rattle.ccsl_kernel.specs.Actuals.{number_of, sum_from}
use Rattle.ccsl_kernel.proofs.expr.NumTerm.number.Given as goal

abbrev pub invariant-loop-sign : goal.invariant-loop-sign
invariant-loop-sign l = sum_from l.total (drop l.sign-index l.sign-items) l.actuals ≡ number_of l.self l.actuals
