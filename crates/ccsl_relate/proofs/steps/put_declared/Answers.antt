use Rattle.std.proofs.Common.{ap, ◌∙◌}
use Rattle.ccsl_base.specs.Clocks.{ticks_in}
use Rattle.ccsl_base.proofs.Sets.{ticks_in-difference}
use Rattle.ccsl_relate.proofs.DeclaredTicks.{declared-are}
use Rattle.ccsl_relate.proofs.steps.put_declared.Goals as goal

pub returns : goal.returns
returns c = λ K u.
    declared-are K c.args.undeclared.now c.args.ticks.now c.copy_difference.new.self u c.ascends.ensures.ascending c.ascends.ensures.below
    c.ascends-2.ensures.ascending
    (λ x. ap (ticks_in x) c.copy_difference.ensures ∙ ticks_in-difference c.args.ticks.now c.args.undeclared.now x)
