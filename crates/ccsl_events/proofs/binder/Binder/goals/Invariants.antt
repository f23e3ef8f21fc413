use Rattle.std.proofs.Common.{[], ◌∷◌, take}
use Rattle.ccsl_event_file.specs.Parsing.{condition_in}
use Rattle.ccsl_events.specs.Binding.{goal, goal_with, read_by_goal}
use Rattle.ccsl_events.specs.Binds.{seen_goal}
use Rattle.ccsl_events.proofs.Bindings.{BoundSoFar}
use Rattle.ccsl_events.proofs.binder.Binder.goals.Given as given

abbrev pub invariant-loop-condition : given.invariant-loop-condition
invariant-loop-condition l =
    BoundSoFar (λ c. goal l.variables (condition_in c)) seen_goal goal_with (λ g. read_by_goal g ∷ []) (take l.condition-index l.conditions) l.goals.items
    l.fn.self.sources.items l.self.sources.items
