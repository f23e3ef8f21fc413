-- In a list of steps that obeys the definitions, what is dead does not tick and stays dead.
use Rattle.std.proofs.Common.{◌≡◌, ℕ, zero, suc, ◌<◌, ◌≤◌, List, [], ◌∷◌, map, length, Bool, true, false, Option, Some, None, refl, sym, ap, ◌∙◌, subst, arith}
use Rattle.std.proofs.Common.{nat_eq, eqb-true, if◌then◌else◌}
use Rattle.ccsl_base.specs.Clocks.{ticks_in}
use Rattle.ccsl_formula.specs.Formula.{eval}
use Rattle.ccsl_kernel.specs.declared.expr.ExprOp.{ExprOp}
use Rattle.ccsl_kernel.specs.declared.actual.Actual.{Actual}
use Rattle.ccsl_kernel.specs.declared.expr.ExprOp.TheVariants as op
use Rattle.ccsl_kernel.specs.declared.actual.Actual.TheVariants as actual
use Rattle.ccsl_kernel.specs.Syntax.{Expression, System, definition_of}
use Rattle.ccsl_kernel.specs.Lives.{Step, Life, steps, step_at, ticks_at, operand, end_of, at_end, followed_by, joined}
use Rattle.ccsl_kernel.specs.Actuals.{place_of, number_of, suffix_of, test_of, word_of}
use Rattle.ccsl_kernel.specs.Table.{Now}
use Rattle.ccsl_kernel.specs.Meaning.{named, life_given, definition_dead, dead_below, meaning}
use Rattle.ccsl_kernel.specs.Guarded.{IsAllowed}
use Rattle.ccsl_kernel.specs.Runs.{ObeysDefinitions}
use Rattle.ccsl_kernel.proofs.GuardedCalls.{AreGuarded, IsGuarded}
use Rattle.ccsl_kernel.proofs.Steps.{map-steps-suc, find-steps-suc, find-within, or_else, if_at}
use Rattle.ccsl_kernel.proofs.Induction.{IsClosed, induct}
use Rattle.ccsl_kernel.proofs.TableHolds.{meaning_calls}
use Rattle.ccsl_kernel.proofs.Definitions.{choice, definition_allowed}
use Rattle.ccsl_kernel.proofs.Quiet.{Passes, IsQuiet, union_quiet, inter_quiet, minus_quiet, inf_quiet, sup_quiet, upto_quiet, upto_weakly_quiet, sampled_quiet}
use Rattle.ccsl_kernel.proofs.Quiet.{sampled_weakly_quiet, delay_quiet, await_quiet, filter_quiet, delayed_quiet}

module _ (T : List Step) where
  -- a life that was born at b is quiet where it is dead, and stays dead
  pub record Silent (b : ℕ) (L : Life) : Type 0 where
    pub at : (n : ℕ) → b ≤ n → n < length T → IsQuiet (step_at T n) (L b n) (L b (suc n))

  passes : (L : Life) (b n : ℕ) → Silent b L → b ≤ n → n < length T → Passes (step_at T n) (operand T L b n) (operand T L b (suc n))
  passes L b n h l u = record { ticks = map-steps-suc (ticks_at T L b) b n l; quiet = (h.at n l u).quiet; stays = (h.at n l u).stays }

  length-ticks : (L M : Life) (b n : ℕ) → length (operand T L b n).ticks ≡ length (operand T M b n).ticks
  length-ticks L M b n = length-maps (ticks_at T L b) (ticks_at T M b) (steps b n)
    where
      length-maps : (f g : ℕ → Bool) (is : List ℕ) → length (map f is) ≡ length (map g is)
      length-maps f g [] = refl
      length-maps f g (i ∷ is) = ap suc (length-maps f g is)

  followed_silent : (L M : Life) (b n : ℕ) → ((k : ℕ) → b < k → k ≤ length T → Silent k M) → b ≤ n → n < length T
      → IsQuiet (step_at T n) (followed_by L M b n) (followed_by L M b (suc n))
  followed_silent L M b n h l u =
      subst (λ o. IsQuiet (step_at T n) (followed_by L M b n) (at_end o (record { formula = (L b (suc n)).formula; dead = false }) (λ k. M k (suc n))))
      (sym (find-steps-suc (λ k. (L b k).dead) (suc b) (suc n) (omega arith))) (at (end_of L b n) refl)
    where
      at : (o : Option ℕ) → end_of L b n ≡ o →
          IsQuiet (step_at T n) (at_end o (record { formula = (L b n).formula; dead = false }) (λ k. M k n))
          (at_end (or_else o (if_at (L b (suc n)).dead (suc n))) (record { formula = (L b (suc n)).formula; dead = false }) (λ k. M k (suc n)))
      at None e = record { quiet = λ h. let z : ⊥ = cc in absurd z; stays = λ h. let z : ⊥ = cc in absurd z }
      at (Some k) e = let w = find-within _ (suc b) (suc n) k e in (h k w.0 (omega (arith, w.1))).at n (omega (arith, w.1)) u

  joined_silent : (o : ExprOp) (L M : Life) (b n : ℕ) → Silent b L → ((k : ℕ) → b ≤ k → k ≤ length T → (o ≡ op.Then → b < k) → Silent k M) → b ≤ n
      → n < length T → IsQuiet (step_at T n) (joined T o L M b n) (joined T o L M b (suc n))
  joined_silent op.Then L M b n h h' l u = followed_silent L M b n (λ k l u. h' k (omega arith) u (λ e. l)) l u
  joined_silent op.Union L M b n h h' l u =
      union_quiet (step_at T n) (operand T L b n) (operand T L b (suc n)) (operand T M b n) (operand T M b (suc n)) (passes L b n h l u)
      (passes M b n (h' b (omega arith) (omega arith) (λ e. let z : ⊥ = cc in absurd z)) l u)
  joined_silent op.Inter L M b n h h' l u =
      inter_quiet (step_at T n) (operand T L b n) (operand T L b (suc n)) (operand T M b n) (operand T M b (suc n)) (passes L b n h l u)
      (passes M b n (h' b (omega arith) (omega arith) (λ e. let z : ⊥ = cc in absurd z)) l u)
  joined_silent op.Minus L M b n h h' l u =
      minus_quiet (step_at T n) (operand T L b n) (operand T L b (suc n)) (operand T M b n) (operand T M b (suc n)) (passes L b n h l u)
      (passes M b n (h' b (omega arith) (omega arith) (λ e. let z : ⊥ = cc in absurd z)) l u)
  joined_silent op.Inf L M b n h h' l u =
      inf_quiet (step_at T n) (operand T L b n) (operand T L b (suc n)) (operand T M b n) (operand T M b (suc n)) (passes L b n h l u)
      (passes M b n (h' b (omega arith) (omega arith) (λ e. let z : ⊥ = cc in absurd z)) l u)
  joined_silent op.Sup L M b n h h' l u =
      sup_quiet (step_at T n) (operand T L b n) (operand T L b (suc n)) (operand T M b n) (operand T M b (suc n)) (passes L b n h l u)
      (passes M b n (h' b (omega arith) (omega arith) (λ e. let z : ⊥ = cc in absurd z)) l u)
  joined_silent op.Upto L M b n h h' l u =
      upto_quiet (step_at T n) (operand T L b n) (operand T L b (suc n)) (operand T M b n) (operand T M b (suc n)) (passes L b n h l u)
      (passes M b n (h' b (omega arith) (omega arith) (λ e. let z : ⊥ = cc in absurd z)) l u)
  joined_silent op.UptoWeakly L M b n h h' l u =
      upto_weakly_quiet (step_at T n) (operand T L b n) (operand T L b (suc n)) (operand T M b n) (operand T M b (suc n)) (passes L b n h l u)
      (passes M b n (h' b (omega arith) (omega arith) (λ e. let z : ⊥ = cc in absurd z)) l u)
  joined_silent op.Sampled L M b n h h' l u =
      sampled_quiet (step_at T n) (operand T L b n) (operand T L b (suc n)) (operand T M b n) (operand T M b (suc n)) (passes L b n h l u)
      (passes M b n (h' b (omega arith) (omega arith) (λ e. let z : ⊥ = cc in absurd z)) l u) (length-ticks L M b n)
  joined_silent op.SampledWeakly L M b n h h' l u =
      sampled_weakly_quiet (step_at T n) (operand T L b n) (operand T L b (suc n)) (operand T M b n) (operand T M b (suc n)) (passes L b n h l u)
      (passes M b n (h' b (omega arith) (omega arith) (λ e. let z : ⊥ = cc in absurd z)) l u) (length-ticks L M b n)

  -- a dead clock does not tick, and stays dead
  pub record AreGoneQuiet (gone : ℕ → ℕ → Bool) : Type 0 where
    pub quiet : (n x : ℕ) → n < length T → gone n x ≡ true → ticks_in x (step_at T n) ≡ false
    pub stays : (n x : ℕ) → n < length T → gone n x ≡ true → gone (suc n) x ≡ true

-- what is quiet under one meaning is so under an equal one
along : (s : Step) (f f' g g' : Now) → f ≡ g → f' ≡ g' → IsQuiet s g g' → IsQuiet s f f'
along s f f' g g' e e' h = subst (λ now. IsQuiet s now f') (sym e) (subst (λ now. IsQuiet s g now) (sym e') h)

module _ (K : System) (T : List Step) (gone : ℕ → ℕ → Bool) (ok : AreGuarded K) (gone_quiet : AreGoneQuiet T gone) where
  name_quiet : (v : Actual) (b n : ℕ) → n < length T → IsQuiet (step_at T n) (named K T gone v b n) (named K T gone v b (suc n))
  name_quiet (actual.Clock x) b n u = record { quiet = gone_quiet.quiet n x u; stays = gone_quiet.stays n x u }
  name_quiet _ b n u = record { quiet = λ h. let z : ⊥ = cc in absurd z; stays = λ h. let z : ⊥ = cc in absurd z }

  choose : (t : Bool) (L L' : Life) (b n : ℕ) → IsQuiet (step_at T n) (L b n) (L b (suc n)) → IsQuiet (step_at T n) (L' b n) (L' b (suc n))
      → IsQuiet (step_at T n) ((if t then L else L') b n) ((if t then L else L') b (suc n))
  choose true L L' b n h h' = h
  choose false L L' b n h h' = h'

  silent_closed : IsClosed K (length T) (λ b e ρ. Silent T b (life_given K T gone e ρ))
  silent_closed = record {
    name = λ x ρ b u. record { at = λ n l' u'. name_quiet (place_of x ρ) b n u' };
    never = λ ρ b u. record { at = λ n l' u'. name_quiet (actual.Number 0) b n u' };
    binary = λ o a d ρ b u ra rd. record { at = λ n l' u'. joined_silent T o (life_given K T gone a ρ) (life_given K T gone d ρ) b n ra rd l' u' };
    delay = λ a m ρ b u ra. record { at = λ n l' u'. delay_quiet (step_at T n) _ _ (passes T (life_given K T gone a ρ) b n ra l' u') (number_of m ρ) };
    await = λ a m ρ b u ra. record { at = λ n l' u'. await_quiet (step_at T n) _ _ (passes T (life_given K T gone a ρ) b n ra l' u') (number_of m ρ) };
    filter = λ a w ρ b u ra. let s =
        suffix_of K.words w ρ in
        record { at = λ n l' u'. filter_quiet (step_at T n) _ _ (passes T (life_given K T gone a ρ) b n ra l' u') (word_of K.words s.word) s.offset };
    delayed = λ a m d ρ b u pos ra rd. record {
      at =
          λ n l' u'. delayed_quiet (step_at T n) _ _ _ _ (passes T (life_given K T gone a ρ) b n ra l' u') (passes T (life_given K T gone d ρ) b n rd l' u')
          (length-ticks T (life_given K T gone a ρ) (life_given K T gone d ρ) b n) m pos;
    };
    choice = λ q a d ρ b u ra rd. record {
      at =
          λ n l' u'. choose (test_of K.words q ρ) (life_given K T gone a ρ) (life_given K T gone d ρ) b n (ra.at n l' u') (rd.at n l' u');
    };
  }

  -- WHAT IS DEAD DOES NOT TICK AND STAYS DEAD
  pub silent : (e : Expression) (ρ : List Actual) (b : ℕ) → IsAllowed K e → b ≤ length T → Silent T b (life_given K T gone e ρ)
  silent e ρ b ok_e u =
      induct K (length T) (λ b e ρ. Silent T b (life_given K T gone e ρ)) silent_closed ok
      (λ group m args v b g u h. record {
        at =
            λ n l' u'. along (step_at T n) _ _ _ _ (meaning_calls K T gone ok group m args v g b n l' (omega arith))
            (meaning_calls K T gone ok group m args v g b (suc n) (omega arith) u') (h.at n l' u');
      })
      e ρ b ok_e u

module _ (K : System) (T : List Step) (ok : IsGuarded K) (obeys : ObeysDefinitions K T) where
  -- a clock that its definition says is dead does not tick, and stays dead
  definition_quiet : (x n : ℕ) (gone : ℕ → ℕ → Bool) → gone ≡ dead_below K T x → AreGoneQuiet T gone → (o : Option Expression) → definition_of K x ≡ o
      → n < length T →
      definition_dead K T gone n o ≡ true → (ticks_in x (step_at T n) ≡ false) × (definition_dead K T gone (suc n) o ≡ true)
  definition_quiet x n gone e q None is u h = let z : ⊥ = cc in absurd z
  definition_quiet x n gone e q (Some d) is u h =
      let w = (silent K T gone ok.bodies q d [] 0 (definition_allowed K ok x d is) (omega arith)).at n (omega arith) u in
      (obeys x d n is u ∙ ap (λ g. eval (life_given K T g d [] 0 n).formula (step_at T n)) (sym e) ∙ w.quiet h, w.stays h)

  pub clocks_quiet : (x : ℕ) → AreGoneQuiet T (dead_below K T x)
  clocks_quiet zero = record { quiet = λ n y u h. let z : ⊥ = cc in absurd z; stays = λ n y u h. let z : ⊥ = cc in absurd z }
  clocks_quiet (suc x) =
      let ih = clocks_quiet x in
      record { quiet = λ n y u h. (at n y ih u (nat_eq y x) refl h).0; stays = λ n y u h. (at n y ih u (nat_eq y x) refl h).1 }
    where
      at : (n y : ℕ) → AreGoneQuiet T (dead_below K T x) → n < length T → (t : Bool) → nat_eq y x ≡ t
          → choice t (definition_dead K T (dead_below K T x) n (definition_of K x)) (dead_below K T x n y) ≡ true →
          (ticks_in y (step_at T n) ≡ false)
          × (choice t (definition_dead K T (dead_below K T x) (suc n) (definition_of K x)) (dead_below K T x (suc n) y) ≡ true)
      at n y ih u true e h = let w =
          definition_quiet x n (dead_below K T x) refl ih (definition_of K x) refl u h in (ap (λ y. ticks_in y (step_at T n)) (eqb-true y x e) ∙ w.0, w.1)
      at n y ih u false e h = (ih.quiet n y u h, ih.stays n y u h)

  -- IN A LIST THAT OBEYS THE DEFINITIONS no dead expression ticks or comes back, at any birth
  pub obeying_silent : (x : ℕ) (e : Expression) (ρ : List Actual) (b : ℕ) → IsAllowed K e → b ≤ length T → Silent T b (meaning K T x e ρ)
  obeying_silent x e ρ b ok_e u = silent K T (dead_below K T x) ok.bodies (clocks_quiet x) e ρ b ok_e u
