-- The states are those of the system.
use Rattle.std.proofs.Common.{◌≡◌}
use Rattle.ccsl_plain_tests.proofs.alike.agree.Given as goal

abbrev pub invariant-loop-text : goal.invariant-loop-text
invariant-loop-text l = l.states.system ≡ l.system
