-- What is possible after a run, said of all admissible sets.
use Rattle.std.specs.Prelude.{◌≡◌, ◌≢◌, ◌↔◌, ℕ, List, [], true, None}
use Rattle.ccsl_base.specs.Clocks.{ticks_in}
use Rattle.ccsl_kernel.specs.Syntax.{System}
use Rattle.ccsl_kernel.specs.Lives.{Step}
use Rattle.ccsl_kernel.specs.Runs.{IsAdmissible, is_declared}
use Rattle.ccsl_items.specs.Laws.{IsNamedRun}
use Rattle.ccsl_possible.specs.Possible.{first_failing, is_allowed}

module _ (K : System) where
  -- A SET OF DECLARED CLOCKS MAY TICK exactly where no constraint fails
  abbrev pub UnforbiddenSetsAreAdmissible : Type 0
  UnforbiddenSetsAreAdmissible = (T : List Step) → IsNamedRun K T → (s : Step) → s ≢ [] → is_declared K s ≡ true →
      (first_failing K T s ≡ None) ↔ IsAdmissible K T s

  -- A CLOCK IS ALLOWED exactly where it is a member of some admissible set
  abbrev pub AllowedClocksMayTick : Type 0
  AllowedClocksMayTick = (T : List Step) → IsNamedRun K T → (x : ℕ) →
      (is_allowed K T x ≡ true) ↔ ((s : Step) × IsAdmissible K T s × (ticks_in x s ≡ true))
