use Rattle.std.proofs.Common.{◌≡◌, ◌+◌, ◌<◌, ◌^◌, List, length, take}
use Rattle.ccsl_kernel.specs.Lives.{Step}
use Rattle.ccsl_kernel.specs.Runs.{completed_after}
use Rattle.ccsl_state.specs.Held.{StandsFor}
use Rattle.ccsl_session.proofs.stack.go_on.Given as goal

-- the states have gone on by the first sets
abbrev pub invariant-loop-set : goal.invariant-loop-set
invariant-loop-set l = record {
  system : l.states.system ≡ l.fn.states.system;
  stands : (T : List Step) → StandsFor l.fn.states T → length T + length l.sets < 2 ^ 64
      → StandsFor l.states (completed_after l.fn.states.system T (take l.set-index l.sets));
}
