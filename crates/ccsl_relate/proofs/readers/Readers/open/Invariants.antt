use Rattle.std.proofs.Common.{◌-◌, map, length}
use Rattle.ccsl_relate.specs.Reading.{clocks_of}
use Rattle.ccsl_relate.proofs.Told.{AreSoFar}
use Rattle.ccsl_relate.proofs.readers.Readers.open.Given as goal

abbrev pub invariant-loop-start : goal.invariant-loop-start
invariant-loop-start l = AreSoFar l.start l.groups.items (map clocks_of l.kept)

abbrev pub decreases-loop-start : goal.decreases-loop-start
decreases-loop-start l = length l.kept - l.start
