use Rattle.std.proofs.Common.{Ok, subst}
use Rattle.ccsl_event_file.specs.Parsing.{trigger_in, conditions_in}
use Rattle.ccsl_events.specs.Binding.{trigger, goal, each}
use Rattle.ccsl_events.specs.Binds.{BindsGoals}
use Rattle.ccsl_events.proofs.Bindings.{watch-bound}
use Rattle.ccsl_events.proofs.binder.Binder.watch.Goals as goals

pub returns : goals.returns
returns c =
    watch-bound (trigger c.args.variables.now (trigger_in c.args.event.now.trigger))
    (each (goal c.args.variables.now) (conditions_in c.args.event.now.conditions.items))
    c.in_ok-trigger.trigger c.in_ok-conditions.conditions c.args.self.now.sources.items c.trigger.new.self.sources.items c.goals.new.self.sources.items
    c.in_ok-trigger.ensures
    (subst (λ cs. BindsGoals (Ok c.in_ok-conditions.conditions) (each (goal c.args.variables.now) (conditions_in cs)) c.trigger.new.self.sources.items
    c.goals.new.self.sources.items) c.as_slice.ensures.value c.in_ok-conditions.ensures)
