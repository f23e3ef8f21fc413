use Rattle.std.proofs.Common.{◌≡◌, drop}
use Rattle.ccsl_triggers.specs.Triggers.{view_at}
use Rattle.ccsl_events.specs.Keeping.{with_names}
use Rattle.ccsl_events.proofs.values.put_names_of.Given as goal

abbrev pub invariant-loop-name : goal.invariant-loop-name
invariant-loop-name l =
    with_names (drop l.name-index l.users) l.watches (view_at l.signals) l.names ≡ with_names l.users l.watches (view_at l.signals) l.fn.names
