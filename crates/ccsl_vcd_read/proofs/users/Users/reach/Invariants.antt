use Rattle.std.proofs.Common.{◌≡◌, ℕ, ◌+◌, ◌-◌}
use Rattle.std.specs.Prelude.{slice_get}
use Rattle.ccsl_vcd_read.specs.Users.{user_in}
use Rattle.ccsl_vcd_read.proofs.users.Users.reach.Given as goal

abbrev pub invariant-loop-self : goal.invariant-loop-self
invariant-loop-self l = (n : ℕ) → user_in (slice_get l.self-inside.users.items n) ≡ user_in (slice_get l.initial.self-inside.users.items n)

abbrev pub decreases-loop-self : goal.decreases-loop-self
decreases-loop-self l = l.code + 1 - l.self-inside.users.len
