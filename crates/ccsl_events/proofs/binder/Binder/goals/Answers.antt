use Rattle.std.proofs.Common.{Vec, Global, [], ◌∷◌}
use Rattle.std.proofs.lemmas.List.{take_all}
use Rattle.std.proofs.lemmas.Result.{err_from_is_err_and}
use Rattle.ccsl_triggers.specs.declared.watch.Goal as made
use Rattle.ccsl_event_file.specs.Parsing.{condition_in}
use Rattle.ccsl_events.specs.Binding.{goal_with, read_by_goal}
use Rattle.ccsl_events.specs.Binding as meaning
use Rattle.ccsl_events.specs.Binds.{seen_goal}
use Rattle.ccsl_events.proofs.Bindings.{loop-next, loop-fault, loop-done}
use Rattle.ccsl_events.proofs.binder.Binder.goals.Goals as goal

pub returns-in_err-goal : goal.returns-in_err-goal
returns-in_err-goal c =
    let p = err_from_is_err_and c.from_residual.result c.from_residual.ensures.1 in
    loop-fault (meaning.goal c.args.variables.now) condition_in (λ (v : Vec made.Goal Global). v.items) seen_goal goal_with (λ g. read_by_goal g ∷ [])
    c.args.conditions.now
    c.loop-condition.condition-index c.condition-item.result c.loop-condition.goals.items c.in_err-goal.field-0.0 p.0 c.from_residual.result
    c.args.self.now.sources.items
    c.loop-condition.self.sources.items c.goal.new.self.sources.items c.loop-condition-test.true c.condition-item.is p.1 p.2 c.loop-condition.invariant
    c.in_err-goal.ensures

pub loop-condition-preserved : goal.loop-condition-preserved
loop-condition-preserved c =
    loop-next (meaning.goal c.args.variables.now) condition_in (λ (v : Vec made.Goal Global). v.items) seen_goal goal_with (λ g. read_by_goal g ∷ [])
    c.args.conditions.now
    c.loop-condition.condition-index c.condition-item.result c.loop-condition.goals.items c.push.new.self.items c.in_ok-goal.goal c.args.self.now.sources.items
    c.loop-condition.self.sources.items c.goal.new.self.sources.items c.loop-condition-test.true c.condition-item.is c.in_ok-push.ensures.items
    c.loop-condition.invariant c.in_ok-goal.ensures

pub returns : goal.returns
returns c =
    loop-done (meaning.goal c.args.variables.now) condition_in (λ (v : Vec made.Goal Global). v.items) seen_goal goal_with (λ g. read_by_goal g ∷ [])
    c.args.conditions.now _
    c.loop-condition.goals c.args.self.now.sources.items c.loop-condition.self.sources.items
    (take_all c.loop-condition.condition-index c.args.conditions.now c.loop-condition-test.false) c.loop-condition.invariant
