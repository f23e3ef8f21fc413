use Rattle.std.proofs.Common.{◌≡◌, ◌++◌, drop}
use Rattle.ccsl_events.specs.Written.{event_lines, names_of}
use Rattle.ccsl_events.proofs.output.put_events.Given as goal

abbrev pub invariant-loop-event : goal.invariant-loop-event
invariant-loop-event l = record {
  counts : l.number ≡ l.event-index;
  writes : l.out.items ++ event_lines l.event-index (names_of (drop l.event-index l.events)) ≡ l.fn.out.items ++ event_lines 0 (names_of l.events);
}
