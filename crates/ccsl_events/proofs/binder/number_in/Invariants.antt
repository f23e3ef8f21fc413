use Rattle.std.proofs.Common.{◌≡◌, ◌+◌, drop}
use Rattle.ccsl_events.specs.Binding.{number_in}
use Rattle.ccsl_events.proofs.binder.number_in.Given as goal

abbrev pub invariant-loop-known : goal.invariant-loop-known
invariant-loop-known l = record {
  counts : l.number ≡ l.known-index;
  ahead : l.number + number_in (drop l.known-index l.sources) l.source ≡ number_in l.sources l.source;
}
