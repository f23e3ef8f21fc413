use Rattle.std.proofs.Common.{◌≡◌, ℕ, take}
use Rattle.ccsl_base.specs.Clocks.{ticks_in}
use Rattle.ccsl_relate.proofs.Following.{is_read}
use Rattle.ccsl_relate.proofs.states.clocks_read.Given as goal

abbrev pub invariant-loop-i : goal.invariant-loop-i
invariant-loop-i l = (x : ℕ) → ticks_in x l.clocks ≡ is_read x (take l.i l.kept)
