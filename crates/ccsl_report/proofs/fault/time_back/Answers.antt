use Rattle.ccsl_report.proofs.Lengths.{time_back_short}
use Rattle.ccsl_report.proofs.fault.time_back.Goals as goal

pub returns-clause-short : goal.returns-clause-short
returns-clause-short c = time_back_short c.args.present c.args.time c.args.at c.ranges.present.fits c.ranges.time.fits c.ranges.at.fits
