use Rattle.ccsl_edge.proofs.Counts.{Reads-SameCounts}
use Rattle.ccsl_follow.proofs.Rereading.{file-read, only-reads, only-until}
use Rattle.ccsl_follow.proofs.reading.read_rest.Goals as goal

pub returns-in-Err-Memory-clause-reads : goal.returns-in-Err-Memory-clause-reads
returns-in-Err-Memory-clause-reads g c =
    only-until g.W.World.told c.args.slot _ _ (file-read c.args.slot c.requires.input) c.args.most _ c.in-Err-Memory.ensures.err

pub returns-in-Err-Fault-clause-reads : goal.returns-in-Err-Fault-clause-reads
returns-in-Err-Fault-clause-reads g c =
    only-until g.W.World.told c.args.slot _ _ (file-read c.args.slot c.requires.input) c.args.most _ c.in-Err-Fault.ensures.err

pub returns-in-Err-TooLong-clause-reads : goal.returns-in-Err-TooLong-clause-reads
returns-in-Err-TooLong-clause-reads g c =
    only-until g.W.World.told c.args.slot _ _ (file-read c.args.slot c.requires.input) c.args.most _ c.in-Err-TooLong.ensures.err

pub returns-in-Err-TooLong-clause-calm : goal.returns-in-Err-TooLong-clause-calm
returns-in-Err-TooLong-clause-calm g c =
    let until = rw c.in-Err-TooLong.field-0-is at c.in-Err-TooLong.ensures.err in
    Reads-SameCounts g.W.World.told c.args.slot until.bytes _ _ until.reads

pub returns-in-Ok-clause-reads : goal.returns-in-Ok-clause-reads
returns-in-Ok-clause-reads g c =
    only-reads g.W.World.told c.args.slot _ _ (file-read c.args.slot c.requires.input) _ c.in-Ok.ensures.ok.reads

pub returns-in-Ok-clause-calm : goal.returns-in-Ok-clause-calm
returns-in-Ok-clause-calm g c = Reads-SameCounts g.W.World.told c.args.slot _ _ _ c.in-Ok.ensures.ok.reads
