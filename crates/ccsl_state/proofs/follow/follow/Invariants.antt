-- What waits is untouched, and what does not is done; a visit makes the first that waits a later one.
use Rattle.std.proofs.Common.{◌-◌, length}
use Rattle.ccsl_state.specs.Regions.{trees_from}
use Rattle.ccsl_state.proofs.Visiting.{IsGoing, lowest}
use Rattle.ccsl_state.proofs.follow.follow.Given as goal

abbrev pub invariant-visits : goal.invariant-visits
invariant-visits l = IsGoing l.lay.system.now l.readers.followed l.initial.step l.initial.passage.gone (trees_from l.lay 0 l.initial.row)
    (trees_from l.lay 0 l.row) l.step l.passage.gone l.passage.waiting l.passage.unsettled

abbrev pub decreases-visits : goal.decreases-visits
decreases-visits l = length l.lay.system.now.definitions - lowest (length l.lay.system.now.definitions) l.passage.waiting
