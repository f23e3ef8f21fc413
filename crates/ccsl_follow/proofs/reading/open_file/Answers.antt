use Rattle.ccsl_edge.proofs.Counts.{OpensIn-SameCounts}
use Rattle.ccsl_follow.proofs.Rereading.{file-read, only-opens, only-fails}
use Rattle.ccsl_follow.proofs.reading.open_file.Goals as goal

pub returns-in-Ok : goal.returns-in-Ok
returns-in-Ok g c = record {
  reads = only-opens g.W.World.told c.args.slot _ _ (file-read _ c.requires.input) c.args.name.now c.in-Ok.ensures.ok;
  calm = OpensIn-SameCounts g.W.World.told c.args.slot c.args.name.now _ _ c.in-Ok.ensures.ok;
}

pub returns-in-Err-clause-reads : goal.returns-in-Err-clause-reads
returns-in-Err-clause-reads g c = only-fails g.W.World.told c.args.slot _ _ (file-read _ c.requires.input) c.in-Err.ensures.err
