use Rattle.std.proofs.Common.{rules}
use Rattle.ccsl_waves.proofs.waves.put_block.Goals as goal

pub row-row-requires : goal.row-row-requires
row-row-requires g c = search rules
