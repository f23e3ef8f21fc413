-- What the library's skip means: it ticks as delay does.
use Rattle.std.proofs.Common.{◌≡◌, ℕ, suc, ◌<◌, ◌≤◌, ⊎_elim, List, [], ◌∷◌, map, Bool, true, false, ◌||◌, Option, Some, None, refl, sym, ap, ap₂, ◌∙◌, arith}
use Rattle.std.proofs.Common.{nat_le, nat_eq, eqb-true, eq-eqb, leb-true, le-leb, if◌then◌else◌}
use Rattle.std.proofs.lemmas.Bool.{cases_lt, cases_eq, ne_eqb, lt-leb, cond-true, cond-false}
use Rattle.ccsl_base.specs.Clocks.{ticks_in}
use Rattle.ccsl_formula.specs.Formula.{FFalse, FVar, FNot, FAnd, eval}
use Rattle.ccsl_kernel.specs.declared.actual.Actual.TheVariants as actual
use Rattle.ccsl_kernel.specs.Syntax.{System}
use Rattle.ccsl_kernel.specs.Ticks.{ever}
use Rattle.ccsl_kernel.specs.Table.{never_row, await_row, upto_row}
use Rattle.ccsl_kernel.specs.Lives.{Step, Life, steps, step_at, ticks_at, over_one, over_two, end_of, at_end, followed_by}
use Rattle.ccsl_kernel.specs.Meaning.{named, life_given}
use Rattle.ccsl_kernel.proofs.Steps.{from_birth, steps-empty, map-steps-suc, find-none, find-some, find-within}
use Rattle.ccsl_kernel.proofs.Quiet.{eval_cond, ever-snoc}
use Rattle.ccsl_library.specs.Members.{skip_root}
use Rattle.ccsl_library.proofs.Counts.{count-first, count-split}
use Rattle.ccsl_kernel.proofs.Counts.{count_from, count-next}

module _ (K : System) (T : List Step) (gone : ℕ → ℕ → Bool) (c m : ℕ) where
  abbrev tc : ℕ → Bool
  tc n = ticks_in c (step_at T n)

  abbrev A : Life
  A = over_one T (await_row m) (named K T gone (actual.Clock c))

  abbrev U : Life
  U = over_two T upto_row (λ b n. never_row) A

  le-suc : (x : ℕ) → (nat_le m x || nat_eq (suc x) m) ≡ nat_le m (suc x)
  le-suc x =
      ⊎_elim
      (λ (l : x < m).
      ⊎_elim
      (λ (e : suc x ≡ m). ap₂ (λ s t. s || t) (lt-leb m x l) (eq-eqb (suc x) m e) ∙ sym (le-leb m (suc x) (omega arith)))
      (λ (ne : suc x ≡ m → ⊥). ap₂ (λ s t. s || t) (lt-leb m x l) (ne_eqb (suc x) m ne) ∙ sym (lt-leb m (suc x) (omega arith)))
      (cases_eq (suc x) m))
      (λ (l : m ≤ x). ap (λ s. s || nat_eq (suc x) m) (le-leb m x l) ∙ sym (le-leb m (suc x) (omega arith)))
      (cases_lt x m)

  -- the await has ticked just where m ticks have come
  ticked : 0 < m → (b n : ℕ) → b ≤ n → ever (map (ticks_at T A b) (steps b n)) ≡ nat_le m (count_from tc b n)
  ticked pos b n l =
      from_birth (λ n. ever (map (ticks_at T A b) (steps b n)) ≡ nat_le m (count_from tc b n)) b
      (ap (λ xs. ever (map (ticks_at T A b) xs)) (steps-empty b b (omega arith)) ∙ sym (ap (nat_le m) (count-first tc b) ∙ lt-leb m 0 pos))
      (λ n l ih.
      ap ever (map-steps-suc (ticks_at T A b) b n l)
      ∙ ever-snoc (map (ticks_at T A b) (steps b n)) (ticks_at T A b n)
      ∙ ap₂ (λ x y. x || y) ih (eval_cond (nat_eq (suc (count_from tc b n)) m) (FVar c) FFalse (step_at T n))
      ∙ by (tc n) (count_from tc b n)
      ∙ sym (ap (nat_le m) (count-next tc b n l)))
      n l
    where
      by : (t : Bool) (x : ℕ) → (nat_le m x || (if nat_eq (suc x) m then t else false)) ≡ nat_le m (if t then suc x else x)
      by true x = ap (λ e. nat_le m x || e) (same (nat_eq (suc x) m)) ∙ le-suc x
        where
          same : (e : Bool) → (if e then true else false) ≡ e
          same true = refl
          same false = refl
      by false x = ap (λ e. nat_le m x || e) (none (nat_eq (suc x) m)) ∙ or_none (nat_le m x)
        where
          none : (e : Bool) → (if e then false else false) ≡ false
          none true = refl
          none false = refl

          or_none : (e : Bool) → (e || false) ≡ e
          or_none true = refl
          or_none false = refl

  later : 0 < m → (b n : ℕ) → b ≤ n
      → eval (followed_by U (named K T gone (actual.Clock c)) b n).formula (step_at T n) ≡ (if nat_le m (count_from tc b n) then tc n else false)
  later pos b n l = on (end_of U b n) refl
    where
      on : (e : Option ℕ) → end_of U b n ≡ e
          → eval (at_end e (record { formula = (U b n).formula; dead = false }) (λ k. named K T gone (actual.Clock c) k n)).formula
          (step_at T n) ≡ (if nat_le m (count_from tc b n) then tc n else false)
      on None e =
          let few : count_from tc b n < m =
          ⊎_elim (λ (s : count_from tc b n < m). s)
          (λ (s : m ≤ count_from tc b n).
          ⊎_elim
          (λ (r : b < n). let d = ticked pos b n l ∙ le-leb m (count_from tc b n) s in let a =
          find-none (λ k. (U b k).dead) (suc b) (suc n) e n r (omega arith) in let z : ⊥ = cc in absurd z)
          (λ (r : n ≤ b). let e' : n ≡ b = omega arith in let z = ap (count_from tc b) e' ∙ count-first tc b in omega arith)
          (cases_lt b n))
          (cases_lt (count_from tc b n) m) in
          silent (ever (map (ticks_at T A b) (steps b n)))
          ∙ sym (cond-false (nat_le m (count_from tc b n)) (tc n) false (lt-leb m (count_from tc b n) few))
        where
          silent : (x : Bool) → eval (if x then FFalse else FAnd FFalse (FNot (A b n).formula)) (step_at T n) ≡ false
          silent true = refl
          silent false = refl
      on (Some k) e =
          let r = find-within (λ k. (U b k).dead) (suc b) (suc n) k e in
          let d = find-some (λ k. (U b k).dead) (suc b) (suc n) k e in
          let full = leb-true m (count_from tc b k) (sym (ticked pos b k (omega (arith, r.0))) ∙ d.0) in
          let all = count-split tc b k n (omega (arith, r.0)) (omega (arith, r.1)) in
          sym (cond-true (nat_le m (count_from tc b n)) (tc n) false (le-leb m (count_from tc b n) (omega (arith, full, all))))

  -- SKIP TICKS AS DELAY DOES
  pub skip-delay : (b n : ℕ) → b ≤ n
      → eval (life_given K T gone skip_root (actual.Clock c ∷ actual.Number m ∷ []) b n).formula
      (step_at T n) ≡ (if nat_le m (count_from tc b n) then tc n else false)
  skip-delay b n l = on (nat_eq m 0) refl
    where
      on : (t : Bool) → nat_eq m 0 ≡ t
          → eval ((if t then named K T gone (actual.Clock c) else followed_by U (named K T gone (actual.Clock c))) b n).formula
          (step_at T n) ≡ (if nat_le m (count_from tc b n) then tc n else false)
      on true e = let z = eqb-true m 0 e in sym (cond-true (nat_le m (count_from tc b n)) (tc n) false (le-leb m (count_from tc b n) (omega arith)))
      on false e = later (⊎_elim (λ (s : 0 < m). s) (λ (s : m ≤ 0). let e' : m ≡ 0 = omega arith in let e'' = eq-eqb m 0 e' in let z : ⊥ =
          cc in absurd z) (cases_lt 0 m)) b n l
