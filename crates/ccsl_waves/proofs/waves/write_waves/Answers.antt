use Rattle.std.proofs.Common.{rules}
use Rattle.ccsl_waves.proofs.waves.write_waves.Goals as goal

pub close_out-requires-clause-opened : goal.close_out-requires-clause-opened
close_out-requires-clause-opened g c = search rules

pub write_steps-requires : goal.write_steps-requires
write_steps-requires g c = search rules

pub open_file-requires-clause-allowed : goal.open_file-requires-clause-allowed
open_file-requires-clause-allowed g c = search rules
