use Rattle.std.proofs.Common.{arith}
use Rattle.std.proofs.lemmas.Grind.{common_steps}
use Rattle.ccsl_files.proofs.file_world.FileWorld.drop.Goals as goal

pub offset_bounds-slots-index : goal.offset_bounds-slots-index
offset_bounds-slots-index g c = grind (arith, common_steps)

pub offset_bounds-slots-index-2 : goal.offset_bounds-slots-index-2
offset_bounds-slots-index-2 g c = grind (arith, common_steps)
