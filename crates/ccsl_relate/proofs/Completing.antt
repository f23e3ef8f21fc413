-- Rows that complete steps, and one row more.
use Rattle.std.proofs.Common.{◌≡◌, ◌+◌, List, [], ◌∷◌, ◌++◌, length, Option, None, refl, sym, subst, arith, length-append}
use Rattle.ccsl_base.specs.declared.rows.Row.{Row}
use Rattle.ccsl_kernel.specs.Syntax.{System}
use Rattle.ccsl_kernel.specs.Lives.{Step}
use Rattle.ccsl_kernel.specs.Runs.{full_step, declared_part}
use Rattle.ccsl_state.specs.Part.{HeldPart}
use Rattle.ccsl_relate.specs.Completed.{with_step, IsCompleted, Completes}

-- rows that are the steps that they complete, where no states are needed
pub completes-itself : (K : System) (T : List Step) (rows : List Row) → Completes K T None rows rows None
completes-itself K T [] = refl
completes-itself K T (row ∷ rows) =
    (None, record { step_is = refl; known = λ x. refl; after = tt }, completes-itself K (with_step K T row.ticks) rows)

-- the steps behind those of some rows
abbrev pub with_steps : System → List Step → List Row → List Step
with_steps K T [] = T
with_steps K T (row ∷ rows) = with_steps K (with_step K T row.ticks) rows

pub with-more : (K : System) (T : List Step) (rows : List Row) (row : Row) → with_steps K T (rows ++ row ∷ []) ≡ with_step K (with_steps K T rows) row.ticks
with-more K T [] row = refl
with-more K T (x ∷ rows) row = with-more K (with_step K T x.ticks) rows row

pub with-length : (K : System) (T : List Step) (rows : List Row) → length (with_steps K T rows) ≡ length T + length rows
with-length K T [] = omega arith
with-length K T (row ∷ rows) =
    omega (arith, with-length K (with_step K T row.ticks) rows, length-append T (full_step K T (declared_part K row.ticks) ∷ []))

pub completes-more : (K : System) (T : List Step) (held : Option HeldPart) (rows steps : List Row) (middle : Option HeldPart) (row step : Row)
    (held' : Option HeldPart) → Completes K T held rows steps middle → IsCompleted K (with_steps K T rows) middle row.ticks step.ticks held'
    → Completes K T held (rows ++ row ∷ []) (steps ++ step ∷ []) held'
completes-more K T held [] [] middle row step held' same c = (held', subst (λ h. IsCompleted K T h row.ticks step.ticks held') (sym same) c, refl)
completes-more K T held [] (y ∷ steps) middle row step held' none c = absurd none
completes-more K T held (x ∷ rows) [] middle row step held' none c = absurd none
completes-more K T held (x ∷ rows) (y ∷ steps) middle row step held' h c =
    (h.0, h.1, completes-more K (with_step K T x.ticks) h.0 rows steps middle row step held' h.2 c)
