use Rattle.std.proofs.Common.{◌≡◌, drop, max, map}
use Rattle.ccsl_report.specs.Room.{longest}
use Rattle.ccsl_report.proofs.judged.longest_label.Given as goal

abbrev pub invariant-loop-i : goal.invariant-loop-i
invariant-loop-i l = max l.longest (longest (drop l.i (map (λ c. c.label) l.system.constraints))) ≡ longest (map (λ c. c.label) l.system.constraints)
