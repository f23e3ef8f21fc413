use Rattle.std.proofs.Common.{◌<◌, All, length}
use Rattle.ccsl_guide.proofs.guide.all_items.Given as goal

abbrev pub invariant-loop-item : goal.invariant-loop-item
invariant-loop-item l = All (λ item. item < length l.problem.formulas.now) l.items.items
