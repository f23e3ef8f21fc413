use Rattle.std.proofs.Common.{◌≡◌, take}
use Rattle.ccsl_relate.specs.declared.watched.Watched.TheVariants.{Relation}
use Rattle.ccsl_relate.specs.Stretch.{after_steps, ObeysUpTo}
use Rattle.ccsl_relate.proofs.stretch.first_row_as.Given as goal

-- the relation went on by the rows so far, and failed at none
abbrev pub invariant-loop-i : goal.invariant-loop-i
invariant-loop-i l = record {
  gone : Relation l.now ≡ after_steps (take l.i l.steps) (Relation l.related);
  obeys : ObeysUpTo l.steps l.steps l.i (Relation l.related);
}
