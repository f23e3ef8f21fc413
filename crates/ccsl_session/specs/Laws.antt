-- What the stack of a session is.
use Rattle.std.specs.Prelude.{ℕ, List, [], ◌∷◌, ◌++◌}
use Rattle.ccsl_kernel.specs.Syntax.{System}
use Rattle.ccsl_kernel.specs.Lives.{Step}
use Rattle.ccsl_kernel.specs.Runs.{IsAdmissible, completed}
use Rattle.ccsl_items.specs.Laws.{IsNamedRun}
use Rattle.ccsl_policy.specs.declared.policies.Policy.{Policy}
use Rattle.ccsl_lines.specs.Lines as lines
use Rattle.ccsl_session.specs.Asked.{asked}
use Rattle.ccsl_session.specs.Answers.{after}

-- each set was admissible behind the run of those below it
pub data IsStack (K : System) : List Step → Type 0 where
  empty : IsStack K []
  pushed : (R : List Step) (s : Step) (below : IsStack K R) (admissible : IsAdmissible K (completed K R) s) → IsStack K (R ++ s ∷ [])

module _ (K : System) where
  -- WHAT A STACK COMPLETES TO IS A RUN
  abbrev pub StacksRun : Type 0
  StacksRun = (R : List Step) → IsStack K R → IsNamedRun K (completed K R)

  -- EVERY LINE LEAVES A STACK
  abbrev pub LinesLeaveStacks : Type 0
  LinesLeaveStacks = (policy : Policy) (seed : ℕ) (R : List Step) → IsStack K R → (line : lines.Line) →
      IsStack K (after K policy seed R (asked K line))
