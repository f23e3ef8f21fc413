use Rattle.ccsl_edge.proofs.Counts.{SameCounts-then}
use Rattle.ccsl_follow.proofs.Rereading.{only-then}
use Rattle.ccsl_follow.proofs.heading.read_header.Goals as goal

pub returns-in_err-count-clause-reads : goal.returns-in_err-count-clause-reads
returns-in_err-count-clause-reads g c = only-then _ _ _ c.loop.invariant.reads c.read_on.ensures.reads

pub returns-then-count-eq0-clause-reads : goal.returns-then-count-eq0-clause-reads
returns-then-count-eq0-clause-reads g c = only-then _ _ _ c.loop.invariant.reads c.read_on.ensures.reads

pub returns-then-count-eq0-clause-calm : goal.returns-then-count-eq0-clause-calm
returns-then-count-eq0-clause-calm g c = SameCounts-then _ _ _ c.loop.invariant.calm c.in_ok-count.ensures.calm

pub returns-in_err-take-clause-reads : goal.returns-in_err-take-clause-reads
returns-in_err-take-clause-reads g c = only-then _ _ _ c.loop.invariant.reads c.read_on.ensures.reads

pub returns-then-branch-clause-reads : goal.returns-then-branch-clause-reads
returns-then-branch-clause-reads g c = only-then _ _ _ c.loop.invariant.reads c.read_on.ensures.reads

pub returns-then-branch-clause-calm : goal.returns-then-branch-clause-calm
returns-then-branch-clause-calm g c = SameCounts-then _ _ _ c.loop.invariant.calm c.in_ok-count.ensures.calm

pub loop-preserved : goal.loop-preserved
loop-preserved g c = record {
  reads = only-then _ _ _ c.loop.invariant.reads c.read_on.ensures.reads;
  calm = SameCounts-then _ _ _ c.loop.invariant.calm c.in_ok-count.ensures.calm;
}

pub loop-init : goal.loop-init
loop-init g c = record { reads = c.open_file.ensures.reads; calm = c.in_ok-open_file.ensures.calm }

pub returns-in_err-buffer-clause-reads : goal.returns-in_err-buffer-clause-reads
returns-in_err-buffer-clause-reads g c = c.open_file.ensures.reads

pub returns-clause-reads : goal.returns-clause-reads
returns-clause-reads g c = c.loop.invariant.reads

pub returns-clause-calm : goal.returns-clause-calm
returns-clause-calm g c = c.loop.invariant.calm
