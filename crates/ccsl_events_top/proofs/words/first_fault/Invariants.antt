use Rattle.std.proofs.Common.{◌≡◌, [], take, drop}
use Rattle.ccsl_events_top.specs.Words.{first_fault}
use Rattle.ccsl_events_top.proofs.words.first_fault.Given as goal

abbrev pub invariant-loop-i : goal.invariant-loop-i
invariant-loop-i l = first_fault [] l.words ≡ first_fault (take l.i l.words) (drop l.i l.words)
