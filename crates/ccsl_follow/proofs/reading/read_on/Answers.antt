use Rattle.std.proofs.Common.{rules}
use Rattle.ccsl_edge.proofs.Counts.{Reads-SameCounts}
use Rattle.ccsl_follow.proofs.Rereading.{file-read, only-reads, only-fails}
use Rattle.ccsl_follow.proofs.reading.read_on.Goals as goal

pub returns-in-Ok-clause-reads : goal.returns-in-Ok-clause-reads
returns-in-Ok-clause-reads g c = only-reads g.W.World.told c.args.slot _ _ (file-read _ c.requires.input) _ c.in-Ok.ensures.ok.reads

pub returns-in-Ok-clause-calm : goal.returns-in-Ok-clause-calm
returns-in-Ok-clause-calm g c = Reads-SameCounts g.W.World.told c.args.slot _ _ _ c.in-Ok.ensures.ok.reads

pub returns-in-Err-clause-reads : goal.returns-in-Err-clause-reads
returns-in-Err-clause-reads g c = only-fails g.W.World.told c.args.slot _ _ (file-read _ c.requires.input) c.in-Err.ensures.err

pub returns-in-Ok-clause-within : goal.returns-in-Ok-clause-within
returns-in-Ok-clause-within g c = search rules
