use Rattle.std.proofs.Common.{◌≡◌, ◌*◌, length}
use Rattle.ccsl_guide.specs.Named.{HasAt, number}
use Rattle.ccsl_guide.proofs.watches.Watches.visit.Given as goal

abbrev pub invariant-loop-at : goal.invariant-loop-at
invariant-loop-at l = record {
  places : length l.self.places.items ≡ 2 * l.problem.scope.named;
  left : HasAt l.self.places.items (number l.lit) l.at;
}
