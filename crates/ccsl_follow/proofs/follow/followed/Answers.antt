use Rattle.ccsl_edge.proofs.Counts.{SameCounts-then}
use Rattle.ccsl_follow.proofs.Rereading.{only-then}
use Rattle.ccsl_follow.proofs.follow.followed.Goals as goal
use Rattle.ccsl_follow.proofs.follow.followed.Goals.{else-loop-test, then-loop-test+in_ok-more+in_ok-take_all+then-not-more}

pub returns-in_err-follow-clause-reads : goal.returns-in_err-follow-clause-reads
returns-in_err-follow-clause-reads g c = c.open_file.ensures.reads

pub returns-in_err-feed-clause-reads : goal.returns-in_err-feed-clause-reads
returns-in_err-feed-clause-reads g c = c.open_file.ensures.reads

pub returns-in_err-more-clause-reads : goal.returns-in_err-more-clause-reads
returns-in_err-more-clause-reads g c = only-then _ _ _ c.loop.invariant.reads c.next_rows.ensures.reads

pub returns-in_err-take_all-clause-reads : goal.returns-in_err-take_all-clause-reads
returns-in_err-take_all-clause-reads g c = only-then _ _ _ c.loop.invariant.reads c.next_rows.ensures.reads

pub loop-init : goal.loop-init
loop-init g c = record {
  fed = c.in_ok-feed.ensures;
  reads = c.open_file.ensures.reads;
  calm = c.in_ok-open_file.ensures.calm;
}

pub loop-preserved : goal.loop-preserved
loop-preserved g c = record {
  fed = c.in_ok-more.ensures.fed c.if-not-more.false;
  reads = only-then _ _ _ c.loop.invariant.reads c.next_rows.ensures.reads;
  calm = SameCounts-then _ _ _ c.loop.invariant.calm c.in_ok-more.ensures.calm;
}

pub returns-clause-reads : goal.returns-clause-reads
returns-clause-reads g c = elim c.loop-test.branch [
  | else-loop-test w ↦ rw w.world-is c.loop.invariant.reads
  | then-loop-test+in_ok-more+in_ok-take_all+then-not-more w ↦ rw w.world-is (only-then _ _ _ c.loop.invariant.reads w.next_rows.ensures.reads)
]

pub returns-clause-calm : goal.returns-clause-calm
returns-clause-calm g c = elim c.loop-test.branch [
  | else-loop-test w ↦ rw w.world-is c.loop.invariant.calm
  | then-loop-test+in_ok-more+in_ok-take_all+then-not-more w ↦
      rw w.world-is (SameCounts-then _ _ _ c.loop.invariant.calm w.in_ok-more.ensures.calm)
]
