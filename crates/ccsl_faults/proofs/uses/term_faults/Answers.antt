use Rattle.std.proofs.Common.{refl}
use Rattle.ccsl_faults.proofs.Least.{least-append}
use Rattle.ccsl_faults.proofs.uses.term_faults.Goals as goal

pub returns : goal.returns
returns c = rw (c.earlier.ensures, c.primary_faults.ensures, c.rest_faults.ensures, c.members.ensures, least-append) refl
