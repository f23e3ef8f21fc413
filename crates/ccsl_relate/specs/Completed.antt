-- ROWS THAT COMPLETE STEPS, one after the other, behind the steps T.
--     IsCompleted      what is known of the step that a row completes, and the states that have gone on by it
--     Completes K T held rows steps held'      the same of each row and the step at its place
--     TakeTicks      items take the step that a row completes
use Rattle.std.specs.Prelude.{◌≡◌, ℕ, ◌+◌, ◌<◌, ◌^◌, List, [], ◌∷◌, ◌++◌, Option, length}
use Rattle.ccsl_base.specs.declared.rows.Row.{Row}
use Rattle.ccsl_kernel.specs.Syntax.{System}
use Rattle.ccsl_kernel.specs.Lives.{Step}
use Rattle.ccsl_kernel.specs.Runs.{full_step, declared_part}
use Rattle.ccsl_state.specs.Part.{HeldPart}
use Rattle.ccsl_relate.specs.declared.watched.Watched.{Watched}
use Rattle.ccsl_relate.specs.Watching.{AreAfter, is_known, step_known}
use Rattle.ccsl_relate.specs.Reading.{TakeStep}

-- the steps with the one that a row with these ticks completes
abbrev pub with_step : System → List Step → List ℕ → List Step
with_step K T ticks = T ++ full_step K T (declared_part K ticks) ∷ []

pub record IsCompleted (K : System) (T : List Step) (held : Option HeldPart) (ticks : List ℕ) (s : Step) (held' : Option HeldPart) : Type 0 where
  pub step_is : s ≡ step_known K held T ticks
  pub known : (x : ℕ) → is_known K held' x ≡ is_known K held x
  pub after : AreAfter K held' (with_step K T ticks)

abbrev pub Completes : System → List Step → Option HeldPart → List Row → List Row → Option HeldPart → Type 0
Completes K T held [] [] held' = held ≡ held'
Completes K T held (row ∷ rows) (step ∷ steps) held' = (middle : Option HeldPart) × IsCompleted K T held row.ticks step.ticks middle
    × Completes K (with_step K T row.ticks) middle rows steps held'
Completes K T held _ _ held' = ⊥

-- a row with these ticks is taken by states and by items, which answer the first place of one that fails
pub record TakeTicks (ticks : List ℕ) (held held' : Option HeldPart) (old new : List Watched) (place : Option ℕ) : Type 0 where
  pub step : Step
  pub completed : (K : System) (T : List Step) → AreAfter K held T → length T + 1 < 2 ^ 64 → IsCompleted K T held ticks step held'
  pub items : TakeStep ticks step old new place
