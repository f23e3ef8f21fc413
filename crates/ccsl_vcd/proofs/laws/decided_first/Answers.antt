use Rattle.ccsl_vcd.proofs.Decided.{decided-first, so_far-stays}
use Rattle.ccsl_vcd.proofs.laws.decided_first.Goals as goal

pub returns-clause-whole : goal.returns-clause-whole
returns-clause-whole c = decided-first

pub returns-clause-stays : goal.returns-clause-stays
returns-clause-stays c = so_far-stays
