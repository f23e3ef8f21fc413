use Rattle.std.proofs.Common.{◌≡◌, true, sym, subst}
use Rattle.ccsl_base.specs.Clocks.{are_below}
use Rattle.ccsl_kernel.proofs.Sets.{below-below}
use Rattle.ccsl_relate.proofs.steps.next_step.Goals as goal

pub go_on-requires : goal.go_on-requires
go_on-requires c =
    let K = c.args.states.now.system in
    subst (λ s. are_below K.declared s ≡ true) (sym (c.put_declared.ensures K c.requires)) (below-below K.declared c.args.ticks.now)
