use Rattle.ccsl_events.proofs.Tables.{IsFront}
use Rattle.ccsl_events.proofs.codes.Codes.new.Given as goal

abbrev pub invariant-loop-i : goal.invariant-loop-i
invariant-loop-i l = IsFront l.i l.short.items l.names l.entries.items
