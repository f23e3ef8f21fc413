-- The numbers before i.
use Rattle.std.proofs.Common.{◌≡◌, ℕ, ◌+◌, ◌&&◌, nat_lt}
use Rattle.ccsl_base.specs.Clocks.{ticks_in}
use Rattle.ccsl_state.proofs.readers.Readers.numbers.Given as goal

abbrev pub invariant-loop-i : goal.invariant-loop-i
invariant-loop-i l = (p : ℕ) → ticks_in p l.numbers ≡ (nat_lt p l.i && ticks_in (l.system.declared + p) l.self.followed)
