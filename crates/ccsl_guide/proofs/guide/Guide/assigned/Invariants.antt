use Rattle.std.proofs.Common.{◌≡◌, ◌≤◌, length}
use Rattle.ccsl_guide.specs.Fits.{clock_count, item_count}
use Rattle.ccsl_guide.proofs.guide.Guide.assigned.Given as goal

abbrev pub invariant-loop-number : goal.invariant-loop-number
invariant-loop-number l = record {
  there : l.number ≤ length l.self.readers.readers.items;
  clocks : clock_count l.self ≡ clock_count l.fn.self;
  items : item_count l.self ≡ item_count l.fn.self;
}

abbrev pub decreases-loop-number : goal.decreases-loop-number
decreases-loop-number l = l.number
