-- The places so far.
use Rattle.ccsl_state.proofs.Each.{PlacesSoFar}
use Rattle.ccsl_state.proofs.items.places.Given as goal

abbrev pub invariant-loop-i : goal.invariant-loop-i
invariant-loop-i l = PlacesSoFar l.lay.earlier.now l.lay.system.now.definitions l.i l.places.items l.place
