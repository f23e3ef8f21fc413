use Rattle.std.proofs.Common.{◌+◌, drop, sym, ap, ◌∙◌, arith}
use Rattle.ccsl_base.specs.declared.limits.TheConstants.{MAX_CLOCKS}
use Rattle.ccsl_formula.specs.Known.{known}
use Rattle.ccsl_refute.specs.Validity.{closes}
use Rattle.ccsl_refute.proofs.Closing.{unit_at-below, closes-at_unit}
use Rattle.ccsl_refute.proofs.checker.closes.Goals as goal

pub set-requires : goal.set-requires
set-requires c =
    unit_at-below MAX_CLOCKS c.args.scope.now.declared c.args.lines.now (known c.loop-i.part) _ c.in-Some.lit c.requires.below
    (sym c.unit_at.ensures ∙ c.in-Some.is)

pub loop-i-preserved : goal.loop-i-preserved
loop-i-preserved c =
    let d = c.args.scope.now.declared in
    let lines = c.args.lines.now in
    record {
      within = omega arith;
      same =
          ap (λ q. closes d lines q (drop (c.loop-i.i + 1) c.args.hints.now)) c.set.ensures
          ∙ sym
          (closes-at_unit d lines (known c.loop-i.part) c.args.hints.now c.loop-i.i (c.loop-i.i + 1) c.in-Some.lit (omega arith) (omega arith)
          c.if-i-hints.false
          (sym c.unit_at.ensures ∙ c.in-Some.is))
          ∙ c.loop-i.invariant.same;
    }
