use Rattle.std.proofs.Common.{◌+◌, sym, subst}
use Rattle.ccsl_relate.proofs.Undeclared.{IsRange, range-more}
use Rattle.ccsl_follow.proofs.steps.undeclared.Goals as goal

pub loop-clock-preserved : goal.loop-clock-preserved
loop-clock-preserved c =
    let declared = c.args.system.now.declared in
    let at = c.loop-clock in
    subst (IsRange declared (at.clock + 1)) (sym c.insert.ensures) (range-more declared at.clock at.clocks at.invariant)
