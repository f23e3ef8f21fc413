use Rattle.std.proofs.Common.{ℕ, ap, ◌∙◌}
use Rattle.ccsl_base.specs.Clocks.{ticks_in}
use Rattle.ccsl_base.proofs.Sets.{ticks_in-difference}
use Rattle.ccsl_relate.proofs.DeclaredTicks.{declared-are}
use Rattle.ccsl_follow.proofs.steps.put_declared.Goals as goal

pub returns : goal.returns
returns c = λ K u.
    let ticks = c.args.ticks.now in
    let away = c.args.undeclared.now in
    let members = λ (x : ℕ). ap (ticks_in x) c.copy_difference.ensures ∙ ticks_in-difference ticks away x in
    let set = c.ascends.ensures in
    declared-are K away ticks c.copy_difference.new.self u set.ascending set.below c.ascends-2.ensures.ascending members
