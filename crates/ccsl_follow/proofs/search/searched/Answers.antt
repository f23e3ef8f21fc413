use Rattle.ccsl_edge.proofs.Counts.{SameCounts-then}
use Rattle.ccsl_follow.proofs.Rereading.{only-then}
use Rattle.ccsl_follow.proofs.search.searched.Goals as goal
use Rattle.ccsl_follow.proofs.search.searched.Goals.{else-loop-test, then-loop-test+in_ok-count+in_ok-take+then-count-eq0}

pub returns-in_err-count-clause-reads : goal.returns-in_err-count-clause-reads
returns-in_err-count-clause-reads g c = only-then _ _ _ c.loop.invariant.reads c.read_on.ensures.reads

pub returns-in_err-take-clause-reads : goal.returns-in_err-take-clause-reads
returns-in_err-take-clause-reads g c = only-then _ _ _ c.loop.invariant.reads c.read_on.ensures.reads

pub returns-in_err-buffer-clause-reads : goal.returns-in_err-buffer-clause-reads
returns-in_err-buffer-clause-reads g c = c.open_file.ensures.reads

pub loop-init : goal.loop-init
loop-init g c = record { reads = c.open_file.ensures.reads; calm = c.in_ok-open_file.ensures.calm }

pub loop-preserved : goal.loop-preserved
loop-preserved g c = record {
  reads = only-then _ _ _ c.loop.invariant.reads c.read_on.ensures.reads;
  calm = SameCounts-then _ _ _ c.loop.invariant.calm c.in_ok-count.ensures.calm;
}

pub returns-clause-reads : goal.returns-clause-reads
returns-clause-reads g c =
    elim c.loop-test.branch [
      | else-loop-test w ↦ rw w.world-is c.loop.invariant.reads
      | then-loop-test+in_ok-count+in_ok-take+then-count-eq0 w ↦ rw w.world-is (only-then _ _ _ c.loop.invariant.reads w.read_on.ensures.reads)
    ]

pub returns-clause-calm : goal.returns-clause-calm
returns-clause-calm g c =
    elim c.loop-test.branch [
      | else-loop-test w ↦ rw w.world-is c.loop.invariant.calm
      | then-loop-test+in_ok-count+in_ok-take+then-count-eq0 w ↦ rw w.world-is (SameCounts-then _ _ _ c.loop.invariant.calm w.in_ok-count.ensures.calm)
    ]
