use Rattle.std.proofs.Common.{rules}
use Rattle.ccsl_waves.proofs.save_file.write_file.Goals as goal

pub open_out-requires-clause-allowed : goal.open_out-requires-clause-allowed
open_out-requires-clause-allowed g c = search rules

pub write_all-requires-clause-opened : goal.write_all-requires-clause-opened
write_all-requires-clause-opened g c = search rules

pub close_out-requires-clause-opened : goal.close_out-requires-clause-opened
close_out-requires-clause-opened g c = search rules
