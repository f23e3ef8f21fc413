-- The leads are those by the constraints so far.
use Rattle.std.proofs.Common.{◌≡◌, take}
use Rattle.std.specs.List.{filter_map}
use Rattle.ccsl_causes.specs.Leading.{lead_by}
use Rattle.ccsl_causes.proofs.leads.side_of.Given as goal

abbrev pub invariant-loop-j : goal.invariant-loop-j
invariant-loop-j l = l.leads.items ≡ filter_map (lead_by l.system l.left) (take l.j l.system.constraints)
