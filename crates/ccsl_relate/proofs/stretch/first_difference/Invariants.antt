-- it differed at no row so far
use Rattle.ccsl_relate.specs.declared.watched.Watched.TheVariants.{Definition}
use Rattle.ccsl_relate.specs.Stretch.{ObeysUpTo}
use Rattle.ccsl_relate.proofs.stretch.first_difference.Given as goal

abbrev pub invariant-loop-i : goal.invariant-loop-i
invariant-loop-i l = ObeysUpTo l.rows l.steps l.i (Definition l.clock)
