use Rattle.std.proofs.Common.{slice_get, refl, sym, ap, ◌∙◌}
use Rattle.ccsl_report.proofs.Members.{first_named, naming_first, naming_more}
use Rattle.ccsl_report.proofs.explained.push_names.Goals as goal

pub get-requires : goal.get-requires
get-requires c =
    rw c.names.ensures.names (first_named c.args.system.now _ _ _ (sym c.members-members.ensures.members ∙ c.in-Some.ensures.steps) c.requires)

pub loop-clock-init : goal.loop-clock-init
loop-clock-init c =
    rw c.into_iter-clock-iterator.ensures.into_iter_gives (
    naming_first c.args.system.now _ _ _ _ _ _ (sym c.members-members.ensures.members ∙ c.in-Some.ensures.steps) c.in_ok-push.ensures.items
    (ap (λ names. slice_get names c.in-Some.first) (sym c.names.ensures.names) ∙ c.get.ensures.name) c.requires
    )

pub get-requires-in-loop-clock : goal.get-requires-in-loop-clock
get-requires-in-loop-clock c =
    rw c.names-in-loop-clock.ensures.names (first_named c.args.system.now _ _ _ c.in-Some-clock.ensures.steps c.loop-clock.invariant.named)

pub loop-clock-preserved : goal.loop-clock-preserved
loop-clock-preserved c =
    naming_more c.args.system.now _ _ _ _ _ _ _ _ _ c.in-Some-clock.ensures.steps c.in_ok-push-2.ensures.items refl c.in_ok-push-3.ensures.items
    (ap (λ names. slice_get names c.in-Some-clock.clock) (sym c.names-in-loop-clock.ensures.names) ∙ c.get-in-loop-clock.ensures.name)
    c.loop-clock.invariant
