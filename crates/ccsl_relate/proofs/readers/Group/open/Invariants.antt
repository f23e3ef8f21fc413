use Rattle.std.proofs.Common.{map}
use Rattle.ccsl_relate.specs.Reading.{clocks_of}
use Rattle.ccsl_relate.proofs.Told.{TellsBefore}
use Rattle.ccsl_relate.proofs.readers.Group.open.Given as goal

abbrev pub invariant-loop-place : goal.invariant-loop-place
invariant-loop-place l = TellsBefore l.start l.place l.places.items (map clocks_of l.kept)
