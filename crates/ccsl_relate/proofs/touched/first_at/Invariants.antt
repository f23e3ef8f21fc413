use Rattle.std.proofs.Common.{◌≡◌, map}
use Rattle.ccsl_relate.specs.Reading.{clocks_of}
use Rattle.ccsl_relate.proofs.Walking.{Walks}
use Rattle.ccsl_relate.proofs.touched.first_at.Given as goal

abbrev pub invariant-loop-place : goal.invariant-loop-place
invariant-loop-place l = record {
  walk : Walks l.ticks l.step l.start l.touched l.place-iterator l.fn.kept l.kept;
  clocks : map clocks_of l.kept ≡ map clocks_of l.fn.kept;
}
