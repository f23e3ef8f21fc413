use Rattle.std.proofs.Common.{◌≡◌, ◌+◌, ◌*◌, length, sym, ap, ◌∙◌, arith}
use Rattle.std.proofs.lemmas.List.{length-map}
use Rattle.ccsl_base.proofs.Cases.{none-of}
use Rattle.ccsl_base.specs.declared.limits.TheConstants.{MAX_CLOCKS}
use Rattle.ccsl_relate.specs.Reading.{clocks_of}
use Rattle.ccsl_relate.proofs.Ranges.{on-both, on-all, stops-at}
use Rattle.ccsl_relate.proofs.Undeclared.{some-of}
use Rattle.ccsl_relate.proofs.touched.first_touched.Goals as goal

pub loop-i-preserved : goal.loop-i-preserved
loop-i-preserved c =
    let none = none-of c.first_at-place.result (sym c.is_some.ensures ∙ c.if-is_some.false) in
    let next : c.loop-i.i * MAX_CLOCKS + MAX_CLOCKS ≡ (c.loop-i.i + 1) * MAX_CLOCKS = omega arith in
    record {
      on = rw next at (on-both c.loop-i.invariant.on (rw none at c.first_at-place.ensures.none) (omega arith) (omega arith));
      clocks = c.first_at-place.ensures.clocks ∙ c.loop-i.invariant.clocks;
    }

pub returns-then-is_some : goal.returns-then-is_some
returns-then-is_some c =
    let x = some-of c.first_at-place.result (sym c.is_some.ensures ∙ c.if-is_some.true) in
    rw x.1
    (stops-at c.loop-i.invariant.on (rw x.1 at c.first_at-place.ensures.fails) (c.first_at-place.ensures.clocks ∙ c.loop-i.invariant.clocks))

pub returns : goal.returns
returns c =
    on-all c.loop-i.invariant.on (omega (arith, c.requires.readers.whole, length-map c.args.kept.now clocks_of, ap length c.groups-groups.ensures))
    c.loop-i.invariant.clocks
