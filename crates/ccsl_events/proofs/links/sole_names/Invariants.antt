use Rattle.std.proofs.Common.{◌≡◌, length}
use Rattle.ccsl_events.specs.Keeping.{AreSole}
use Rattle.ccsl_events.proofs.links.sole_names.Given as goal

abbrev pub invariant-loop-number : goal.invariant-loop-number
invariant-loop-number l = record {
  len : l.number ≡ length l.names.items;
  sole : AreSole l.watches l.users l.names.items;
}
