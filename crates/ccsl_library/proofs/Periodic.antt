-- What the library's periodic means: it ticks with each tick whose number since its birth is a multiple.
use Rattle.std.proofs.Common.{◌≡◌, ℕ, zero, suc, ◌+◌, ◌-◌, ◌%◌, ◌<◌, ◌≤◌, ⊎_elim, List, [], ◌∷◌, length, Bool, true, false, ◌&&◌, Option, Some, None, refl, sym}
use Rattle.std.proofs.Common.{ap, ap₂, ◌∙◌, arith, nat_le, nat_lt, nat_eq, eq-eqb, leb-true, le-leb, lt-ltb, mod-eq_of_lt, if◌then◌else◌}
use Rattle.std.proofs.lemmas.Bool.{or_cases, or_right, cases_lt, cases_eq, ne_eqb}
use Rattle.std.proofs.Math.Nat.{add-mod_left, mod_self}
use Rattle.ccsl_base.specs.Clocks.{ticks_in}
use Rattle.ccsl_formula.specs.Formula.{FFalse, FVar, eval}
use Rattle.ccsl_kernel.specs.declared.actual.Actual.TheVariants as actual
use Rattle.ccsl_kernel.specs.declared.expr.Value.TheVariants as value
use Rattle.ccsl_kernel.specs.Syntax.{System, root_of}
use Rattle.ccsl_kernel.specs.Table.{Now, await_row}
use Rattle.ccsl_kernel.specs.Lives.{Step, Life, step_at, over_one, end_of, at_end}
use Rattle.ccsl_kernel.specs.Meaning.{named, life_given}
use Rattle.ccsl_kernel.proofs.GuardedCalls.{AreGuarded}
use Rattle.ccsl_kernel.proofs.Steps.{find-none, find-some, find-within}
use Rattle.ccsl_kernel.proofs.Quiet.{eval_cond}
use Rattle.ccsl_kernel.proofs.TableHolds.{meaning_calls}
use Rattle.ccsl_kernel.proofs.Silent.{AreGoneQuiet}
use Rattle.ccsl_library.specs.Laws.{is_multiple}
use Rattle.ccsl_library.specs.Members.{periodic, periodic_root, own_clock, own_number}
use Rattle.ccsl_library.proofs.Counts.{count-first, count-split, stays-gone}
use Rattle.ccsl_kernel.proofs.Counts.{count_from, count-next}

module _ (K : System) (T : List Step) (gone : ℕ → ℕ → Bool) (ok : AreGuarded K) (gone_quiet : AreGoneQuiet T gone)
    (in_K : 0 < length K.groups) (is : root_of K 0 0 ≡ periodic_root) (c m : ℕ) where
  abbrev tc : ℕ → Bool
  tc n = ticks_in c (step_at T n)

  abbrev A : Life
  A = over_one T (await_row m) (named K T gone (actual.Clock c))

  -- while the first life is not dead, fewer than m ticks have come
  few : (b n : ℕ) → 0 < m → b ≤ n → ((j : ℕ) → suc b ≤ j → j < suc n → (A b j).dead ≡ false) → count_from tc b n < m
  few b n pos l alive =
      ⊎_elim (λ (s : count_from tc b n < m). s)
      (λ (s : m ≤ count_from tc b n).
      ⊎_elim
      (λ (r : b < n). let d = or_right (gone n c) (nat_le m (count_from tc b n)) (le-leb m (count_from tc b n) s) in let a =
      alive n r (omega arith) in let z : ⊥ = cc in absurd z)
      (λ (r : n ≤ b). let e : n ≡ b = omega arith in let z = ap (count_from tc b) e ∙ count-first tc b in omega arith)
      (cases_lt b n))
      (cases_lt (count_from tc b n) m)

  -- the first tick to come is a turn just where it is number m
  first_turn : (k n : ℕ) → (0 < m → k < m) → (if nat_eq (suc k) m then tc n else false) ≡ (tc n && is_multiple m (suc k))
  first_turn k n small = on m small
    where
      and_true : (x : Bool) → x ≡ (x && true)
      and_true true = refl
      and_true false = refl

      and_false : (x : Bool) → false ≡ (x && false)
      and_false true = refl
      and_false false = refl

      on : (m : ℕ) → (0 < m → k < m) → (if nat_eq (suc k) m then tc n else false) ≡ (tc n && is_multiple m (suc k))
      on zero small = ap (λ t. if t then tc n else false) (ne_eqb (suc k) 0 (λ e. omega arith)) ∙ and_false (tc n)
      on (suc m) small =
          let l = small (omega arith) in
          ⊎_elim
          (λ (e : suc k ≡ suc m).
          ap (λ t. if t then tc n else false) (eq-eqb (suc k) (suc m) e)
          ∙ and_true (tc n)
          ∙ ap₂ (λ x y. tc n && (x && y)) (sym (lt-ltb 0 (suc m) (omega arith))) (sym (eq-eqb (suc k % suc m) 0 (ap (λ j. j % suc m) e ∙ mod_self (suc m)))))
          (λ (ne : suc k ≡ suc m → ⊥).
          let below : suc k < suc m = omega arith in
          ap (λ t. if t then tc n else false) (ne_eqb (suc k) (suc m) ne)
          ∙ and_false (tc n)
          ∙ ap₂ (λ x y. tc n && (x && y)) (sym (lt-ltb 0 (suc m) (omega arith)))
          (sym (ne_eqb (suc k % suc m) 0 (λ e. let e' = sym (mod-eq_of_lt below) ∙ e in omega arith))))
          (cases_eq (suc k) (suc m))

  none : (t : Bool) (x : Bool) → t ≡ false → (t && x) ≡ false
  none true x e = let z : ⊥ = cc in absurd z
  none false x e = refl

  -- PERIODIC TICKS WITH EACH m-TH TICK
  pub periodic-turns : (f b n : ℕ) → length T - b < f → b ≤ n → n < length T →
      eval (life_given K T gone periodic_root (actual.Clock c ∷ actual.Number m ∷ []) b n).formula
      (step_at T n) ≡ (tc n && is_multiple m (suc (count_from tc b n)))
  periodic-turns zero b n h l u = let z : ⊥ = omega arith in absurd z
  periodic-turns (suc f) b n h l u = on (end_of A b n) refl (λ k l' u'.
      ap (λ (now : Now). eval now.formula (step_at T n))
      (meaning_calls K T gone ok 0 0 (value.Clock own_clock ∷ value.Number own_number ∷ []) (actual.Clock c ∷ actual.Number m ∷ []) in_K k n u'
      (omega arith))
      ∙ ap (λ e. eval (life_given K T gone e (actual.Clock c ∷ actual.Number m ∷ []) k n).formula (step_at T n)) is
      ∙ periodic-turns f k n (omega arith) u' u)
    where
      M : Life
      M = life_given K T gone (periodic own_clock own_number) (actual.Clock c ∷ actual.Number m ∷ [])

      on : (e : Option ℕ) → end_of A b n ≡ e →
          ((k : ℕ) → b < k → k ≤ n
          → eval (life_given K T gone (periodic own_clock own_number) (actual.Clock c ∷ actual.Number m ∷ []) k n).formula
          (step_at T n) ≡ (tc n && is_multiple m (suc (count_from tc k n)))) →
          eval (at_end e (record { formula = (A b n).formula; dead = false })
          (λ k. life_given K T gone (periodic own_clock own_number) (actual.Clock c ∷ actual.Number m ∷ []) k n)).formula
          (step_at T n) ≡ (tc n && is_multiple m (suc (count_from tc b n)))
      on None e later =
          eval_cond (nat_eq (suc (count_from tc b n)) m) (FVar c) FFalse (step_at T n)
          ∙ first_turn (count_from tc b n) n (λ pos. few b n pos l (find-none (λ k. (A b k).dead) (suc b) (suc n) e))
      on (Some zero) e later = let r = find-within (λ k. (A b k).dead) (suc b) (suc n) zero e in let z : ⊥ = omega (arith, r.0) in absurd z
      on (Some (suc k)) e later =
          let r = find-within (λ k. (A b k).dead) (suc b) (suc n) (suc k) e in
          let d = find-some (λ k. (A b k).dead) (suc b) (suc n) (suc k) e in
          later (suc k) r.0 (omega (arith, r.1))
          ∙ ⊎_elim
          (λ (x : gone (suc k) c ≡ true).
          let q = gone_quiet.quiet n c u (stays-gone T gone gone_quiet c (suc k) n (omega (arith, r.1)) u x) in
          none (tc n) _ q ∙ sym (none (tc n) _ q))
          (λ x.
          let full = leb-true m (count_from tc b (suc k)) x in
          let all = count-split tc b (suc k) n (omega (arith, r.0)) (omega (arith, r.1)) in
          turn (count_from tc b (suc k)) (λ pos. let before =
          few b k pos (omega (arith, r.0)) d.1 in at_most (tc k) (count-next tc b k (omega (arith, r.0))) before full) full (count_from tc (suc k) n)
          (count_from tc b n) all)
          (or_cases (gone (suc k) c) (nat_le m (count_from tc b (suc k))) d.0)
        where
          at_most : (t : Bool) → count_from tc b (suc k) ≡ (if t then suc (count_from tc b k) else count_from tc b k) → count_from tc b k < m
              → m ≤ count_from tc b (suc k) → count_from tc b (suc k) ≡ m
          at_most true e l f = omega arith
          at_most false e l f = omega arith

          turn : (x : ℕ) → (0 < m → x ≡ m) → m ≤ x → (j y : ℕ) → y ≡ x + j → (tc n && is_multiple m (suc j)) ≡ (tc n && is_multiple m (suc y))
          turn x is_m full j y e =
              ⊎_elim
              (λ (pos : 0 < m).
              ap (λ k. tc n && (nat_lt 0 m && nat_eq k 0))
              (sym (add-mod_left m (suc j)) ∙ ap (λ k. k % m) (let s : m + suc j ≡ suc y = omega (arith, is_m pos, e) in s)))
              (λ (z : m ≤ 0). ap (λ k. tc n && k) (never_turn m j z ∙ sym (never_turn m y z)))
              (cases_lt 0 m)
            where
              never_turn : (m j : ℕ) → m ≤ 0 → is_multiple m (suc j) ≡ false
              never_turn zero j z = refl
              never_turn (suc m) j z = let z' : ⊥ = omega arith in absurd z'
