use Rattle.ccsl_guide.specs.Fits.{item_count}
use Rattle.ccsl_guide.proofs.guide.Guide.assigned.Goals as goal

pub wait-requires : goal.wait-requires
wait-requires c = c.reader-reader.ensures.item (item_count c.loop-number.self) c.loop-number.self.read
