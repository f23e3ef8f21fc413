-- The leads so far are those that the tick leaves.
use Rattle.std.proofs.Common.{◌≡◌, ◌++◌, map, take, drop}
use Rattle.ccsl_causes.specs.Leading.{begun}
use Rattle.ccsl_causes.proofs.leads.Side.begin.Given as goal

abbrev pub invariant-loop-lead : goal.invariant-loop-lead
invariant-loop-lead l = l.lead-items ≡ map (begun l.before l.left l.time) (take l.lead-index l.initial.lead-items) ++ drop l.lead-index l.initial.lead-items
