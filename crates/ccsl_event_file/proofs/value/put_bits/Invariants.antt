use Rattle.std.proofs.Common.{◌≡◌, ◌-◌}
use Rattle.ccsl_event_file.specs.Values.{bits}
use Rattle.ccsl_event_file.specs.Letters.{extended}
use Rattle.ccsl_event_file.proofs.value.put_bits.Given as goal

abbrev pub invariant-loop-i : goal.invariant-loop-i
invariant-loop-i l = extended l.letters.items (bits (l.count - l.i) l.number) ≡ extended l.fn.letters.items (bits l.count l.number)
