use Rattle.std.proofs.Common.{◌≡◌, length}
use Rattle.ccsl_events.proofs.links.no_users.Given as goal

abbrev pub invariant-loop-i : goal.invariant-loop-i
invariant-loop-i l = length l.users.items ≡ l._i
