use Rattle.ccsl_report.proofs.Lengths.{clock_short}
use Rattle.ccsl_report.proofs.fault.with_clock.Goals as goal

pub returns-clause-short : goal.returns-clause-short
returns-clause-short c = clock_short c.args.kind.now c.args.system.now c.args.clock c.requires.kind
