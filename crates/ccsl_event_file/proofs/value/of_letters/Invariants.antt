use Rattle.std.proofs.Common.{◌≡◌, map, take}
use Rattle.ccsl_event_file.specs.Values.{lower}
use Rattle.ccsl_event_file.proofs.value.of_letters.Given as goal

abbrev pub invariant-loop-b : goal.invariant-loop-b
invariant-loop-b l = l.letters.items ≡ map lower (take l.b-index l.text)
