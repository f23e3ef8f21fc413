use Rattle.std.proofs.Common.{◌≡◌, map}
use Rattle.ccsl_relate.specs.Reading.{clocks_of, GoesOn}
use Rattle.ccsl_relate.proofs.watched.first_failing.Given as goal

-- the items before the present one do not fail, and they have gone on
abbrev pub invariant-loop-i : goal.invariant-loop-i
invariant-loop-i l = record {
  on : GoesOn l.ticks l.step 0 l.i l.fn.kept l.kept;
  clocks : map clocks_of l.kept ≡ map clocks_of l.fn.kept;
}
