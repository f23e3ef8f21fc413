-- the rows so far complete the steps so far, and the states are behind these
use Rattle.std.proofs.Common.{◌≡◌, ◌+◌, ◌<◌, ◌^◌, List, Some, length, take}
use Rattle.ccsl_kernel.specs.Syntax.{System}
use Rattle.ccsl_kernel.specs.Lives.{Step}
use Rattle.ccsl_relate.specs.Completed.{Completes}
use Rattle.ccsl_relate.specs.Watching.{IsUndeclared, AreAfter}
use Rattle.ccsl_relate.proofs.Completing.{with_steps}
use Rattle.ccsl_relate.proofs.steps.complete.Given as goal

abbrev pub invariant-loop-i : goal.invariant-loop-i
invariant-loop-i l = record {
  undeclared : IsUndeclared l.states.system l.undeclared;
  room : length l.completed ≡ length l.fn.completed;
  completes : (K : System) (T : List Step) → AreAfter K (Some l.fn.states) T → length T + length l.rows < 2 ^ 64
      → Completes K T (Some l.fn.states) (take l.i l.rows) (take l.i l.completed) (Some l.states)
      × AreAfter K (Some l.states) (with_steps K T (take l.i l.rows));
}
