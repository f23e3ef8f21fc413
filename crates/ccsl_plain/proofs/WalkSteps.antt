-- One more step of a walk.
use Rattle.std.proofs.Common.{◌≡◌, ℕ, suc, ◌+◌, List, [], ◌∷◌, ◌++◌, map, Bool, sym, ap, ap₂, ◌∙◌, arith}
use Rattle.ccsl_kernel.specs.Syntax.{System}
use Rattle.ccsl_kernel.specs.Lives.{Step, steps, step_at}
use Rattle.ccsl_plain.specs.Course.{Course, now_of, next, grown, life_of}
use Rattle.ccsl_kernel.proofs.Steps.{map-steps-suc}
use Rattle.ccsl_plain.proofs.Follows.{grown-suc}

module _ (K : System) (T : List Step) (gone : ℕ → ℕ → Bool) (birth : Course) where
  pub walk_course : (i : ℕ) (now later : Course) (s : Step) → now ≡ grown K T gone birth 0 i → s ≡ step_at T i → later ≡ next K s (gone i) (gone (i + 1)) now
      → later ≡ grown K T gone birth 0 (i + 1)
  walk_course i now later s h e h' =
      let one : i + 1 ≡ suc i = omega arith in
      h' ∙ ap₂ (λ s c. next K s (gone i) (gone (i + 1)) c) e h
      ∙ ap (λ k. next K (step_at T i) (gone i) (gone k) (grown K T gone birth 0 i)) one
      ∙ sym (grown-suc K T gone birth 0 i (omega arith))
      ∙ ap (grown K T gone birth 0) (sym one)

  pub walk_deaths : (i : ℕ) (column longer : List Bool) (later : Course) (dead : Bool) → column ≡ map (λ n. (life_of K T gone birth 0 n).dead) (steps 0 (suc i))
      → later ≡ grown K T gone birth 0 (i + 1) → dead ≡ (now_of (gone (i + 1)) later).dead → longer ≡ column ++ dead ∷ []
      → longer ≡ map (λ n. (life_of K T gone birth 0 n).dead) (steps 0 (suc (i + 1)))
  walk_deaths i column longer later dead h c d e =
      let one : suc i ≡ i + 1 = omega arith in
      e
      ∙ ap₂ (λ xs x. xs ++ x ∷ []) h (d ∙ ap (λ c. (now_of (gone (i + 1)) c).dead) c ∙ ap (λ k. (life_of K T gone birth 0 k).dead) (sym one))
      ∙ sym (map-steps-suc (λ n. (life_of K T gone birth 0 n).dead) 0 (suc i) (omega arith))
      ∙ ap (λ k. map (λ n. (life_of K T gone birth 0 n).dead) (steps 0 (suc k))) one
