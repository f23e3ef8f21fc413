use Rattle.std.proofs.Common.{◌≡◌, drop, max}
use Rattle.ccsl_report.specs.Room.{longest}
use Rattle.ccsl_report.proofs.judged.longest_name.Given as goal

abbrev pub invariant-loop-i : goal.invariant-loop-i
invariant-loop-i l = max l.longest (longest (drop l.i l.names)) ≡ longest l.names
