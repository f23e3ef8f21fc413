-- The leads that have changed, with the clocks that are still to be visited, are those of the step.
use Rattle.std.proofs.Common.{true, []}
use Rattle.ccsl_causes.specs.Leading.{led}
use Rattle.ccsl_causes.proofs.Visiting.{IsVisiting}
use Rattle.ccsl_causes.proofs.leads.Leads.hear.Given as goal

abbrev pub invariant-loop-clock : goal.invariant-loop-clock
invariant-loop-clock l = IsVisiting (λ x leads. led l.before l.time true x leads) [] l.step l.fn.self l.clock-iterator l.self-inside.sides.items
