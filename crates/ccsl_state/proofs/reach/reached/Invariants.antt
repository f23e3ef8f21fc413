-- The definitions from number i on have been passed.
use Rattle.ccsl_state.proofs.ReachLaws.{ReachedSo}
use Rattle.ccsl_state.proofs.reach.reached.Given as goal

abbrev pub invariant-loop-i : goal.invariant-loop-i
invariant-loop-i l = ReachedSo l.system l.clocks l.set l.i
