use Rattle.std.proofs.Common.{◌≡◌, ◌*◌, map}
use Rattle.ccsl_base.specs.declared.limits.TheConstants.{MAX_CLOCKS}
use Rattle.ccsl_relate.specs.Reading.{clocks_of, GoesOn}
use Rattle.ccsl_relate.proofs.touched.first_touched.Given as goal

-- the items of the groups before the present one do not fail and went on
abbrev pub invariant-loop-i : goal.invariant-loop-i
invariant-loop-i l = record {
  on : GoesOn l.ticks l.step 0 (l.i * MAX_CLOCKS) l.fn.kept l.kept;
  clocks : map clocks_of l.kept ≡ map clocks_of l.fn.kept;
}
