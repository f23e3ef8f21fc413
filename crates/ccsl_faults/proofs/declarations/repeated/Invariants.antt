-- The worst so far and the least of the rest is the least of the whole.
use Rattle.std.proofs.Common.{◌≡◌, drop, take}
use Rattle.ccsl_rules.specs.Faults.{least, earlier}
use Rattle.ccsl_rules.specs.Spaces.{repeated, spots}
use Rattle.ccsl_spaces.specs.Knowns.{names}
use Rattle.ccsl_faults.proofs.declarations.repeated.Given as goal

abbrev pub invariant-loop-place : goal.invariant-loop-place
invariant-loop-place g l =
    earlier l.worst (least (repeated (take l.place (names l.space)) (drop l.place (spots l.space))))
    ≡ least (repeated (take l.from (names l.space)) (drop l.from (spots l.space)))
