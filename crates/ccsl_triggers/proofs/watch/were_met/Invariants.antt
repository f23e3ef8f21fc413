use Rattle.std.proofs.Common.{◌≡◌, drop}
use Rattle.std.specs.List.{list_all}
use Rattle.ccsl_triggers.specs.Triggers.{view_at, held_before}
use Rattle.ccsl_triggers.proofs.watch.were_met.Given as goal

abbrev pub invariant-loop-goal : goal.invariant-loop-goal
invariant-loop-goal l =
    list_all (held_before (view_at l.signals)) l.conditions ≡ list_all (held_before (view_at l.signals)) (drop l.goal-index l.conditions)
