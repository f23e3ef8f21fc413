use Rattle.std.proofs.Common.{take}
use Rattle.ccsl_event_file.specs.Parsing.{event_in}
use Rattle.ccsl_events.specs.Binding.{watch, watch_with, read_by}
use Rattle.ccsl_events.specs.Binds.{seen_watch}
use Rattle.ccsl_events.proofs.Bindings.{BoundSoFar}
use Rattle.ccsl_events.proofs.binder.Binder.watches.Given as given

abbrev pub invariant-loop-event : given.invariant-loop-event
invariant-loop-event l =
    BoundSoFar (λ e. watch l.variables (event_in e)) seen_watch watch_with read_by (take l.event-index l.events) l.watches.items
    l.fn.self.sources.items l.self.sources.items
