use Rattle.std.proofs.Common.{◌≡◌}
use Rattle.ccsl_events.proofs.Users.{AreFirstUsers}
use Rattle.ccsl_events.proofs.links.users.Given as goal

abbrev pub invariant-loop-watch : goal.invariant-loop-watch
invariant-loop-watch l = record {
  counts : l.name ≡ l.watch-index;
  first : AreFirstUsers l.count l.watch-index l.watches l.users.items;
}
