use Rattle.ccsl_report.proofs.Lengths.{at_byte_short}
use Rattle.ccsl_report.proofs.fault.at_byte.Goals as goal

pub returns-clause-short : goal.returns-clause-short
returns-clause-short c = at_byte_short c.args.kind.now c.args.at c.requires c.ranges.at.fits
