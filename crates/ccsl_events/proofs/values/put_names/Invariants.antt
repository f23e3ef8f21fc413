use Rattle.std.proofs.Common.{◌≡◌, drop}
use Rattle.ccsl_triggers.specs.Triggers.{view_at}
use Rattle.ccsl_events.specs.Keeping.{with_users}
use Rattle.ccsl_events.proofs.values.put_names.Given as goal

abbrev pub invariant-loop-number : goal.invariant-loop-number
invariant-loop-number l =
    with_users (drop l.number-index l.variables) l.users l.watches (view_at l.signals) l.names
    ≡ with_users l.variables l.users l.watches (view_at l.signals) l.fn.names
