-- What the arguments so far stand for.
use Rattle.std.proofs.Common.{◌≡◌, map, take}
use Rattle.ccsl_kernel.specs.Actuals.{value_of}
use Rattle.ccsl_kernel.specs.Fit.{ActualsFit}
use Rattle.ccsl_plain.proofs.opening.all_actuals.Given as goal

abbrev pub invariant-loop-arg : goal.invariant-loop-arg
invariant-loop-arg l = record { values : l.all.items ≡ map (value_of l.words l.actuals) (take l.arg-index l.args); fit : ActualsFit l.words l.all.items }
