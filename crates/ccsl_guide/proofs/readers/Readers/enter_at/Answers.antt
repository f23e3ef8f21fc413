use Rattle.std.proofs.Common.{rules}
use Rattle.ccsl_guide.proofs.readers.Readers.enter_at.Goals as goal

pub invariant_of-self-2 : goal.invariant_of-self-2
invariant_of-self-2 c = search rules
