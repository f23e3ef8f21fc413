-- The rows of written steps, and the verdict on them.
use Rattle.std.proofs.Common.{◌≡◌, ℕ, zero, suc, ◌+◌, ◌<◌, ◌≤◌, List, [], ◌∷◌, Bool, true, false, cond, not, ◌&&◌, ◌||◌, length, map, filter, nat_lt, nat_eq}
use Rattle.std.proofs.Common.{refl, sym, ap, ap₂, ◌∙◌, subst, arith, lt-ltb, le-ltb, ne_eqb, ⊎_elim}
use Rattle.std.proofs.lemmas.Bool.{cases_lt, eqb-true}
use Rattle.std.specs.List.{range_with_len}
use Rattle.ccsl_base.specs.declared.rows.Row.{Row}
use Rattle.ccsl_base.specs.Clocks.{ticks_in}
use Rattle.ccsl_formula.specs.Formula.{same}
use Rattle.ccsl_kernel.specs.Syntax.{System, item_count}
use Rattle.ccsl_kernel.specs.Lives.{Step, step_at}
use Rattle.ccsl_kernel.specs.Laws.{VerdictIsFirst}
use Rattle.ccsl_kernel.specs.Runs.{IsRun, holds_at, declared_part, completed}
use Rattle.ccsl_kernel.specs.Verdict.{Run, verdict, completed_rows, is_violated, is_recorded, is_as_recorded}
use Rattle.ccsl_vcd_write.specs.Text.{written_part}
use Rattle.ccsl_vcd_write.specs.ReadsBack.{rows_from, rows_of_steps}
use Rattle.ccsl_formula.proofs.Same.{same-self}

-- the members below a bound, of those below a higher one
lower-more : (m n x : ℕ) (xs : List ℕ) → m ≤ n → filter (λ z. nat_lt z m) (filter (λ z. nat_lt z n) xs) ≡ filter (λ z. nat_lt z m) xs →
    filter (λ z. nat_lt z m) (filter (λ z. nat_lt z n) (x ∷ xs)) ≡ filter (λ z. nat_lt z m) (x ∷ xs)
lower-more m n x xs l rest = ⊎_elim
    (λ h. ap (λ t. filter (λ z. nat_lt z m) (cond t (x ∷ filter (λ z. nat_lt z n) xs) (filter (λ z. nat_lt z n) xs))) (lt-ltb x n h)
    ∙ ap (λ ys. cond (nat_lt x m) (x ∷ ys) ys) rest)
    (λ h. ap (λ t. filter (λ z. nat_lt z m) (cond t (x ∷ filter (λ z. nat_lt z n) xs) (filter (λ z. nat_lt z n) xs))) (le-ltb x n h)
    ∙ rest ∙ sym (ap (λ t. cond t (x ∷ filter (λ z. nat_lt z m) xs) (filter (λ z. nat_lt z m) xs)) (le-ltb x m (omega (arith, h, l)))))
    (cases_lt x n)

lower-part : (m n : ℕ) → m ≤ n → (xs : List ℕ) → filter (λ x. nat_lt x m) (filter (λ x. nat_lt x n) xs) ≡ filter (λ x. nat_lt x m) xs
lower-part m n l [] = refl
lower-part m n l (x ∷ xs) = lower-more m n x xs l (lower-part m n l xs)

-- whether a clock below a bound ticks is left by the members below it
low-more : (n x y : ℕ) (ys : List ℕ) → x < n → ticks_in x (filter (λ z. nat_lt z n) ys) ≡ ticks_in x ys →
    ticks_in x (filter (λ z. nat_lt z n) (y ∷ ys)) ≡ ticks_in x (y ∷ ys)
low-more n x y ys h rest = ⊎_elim
    (λ l. ap (λ t. ticks_in x (cond t (y ∷ filter (λ z. nat_lt z n) ys) (filter (λ z. nat_lt z n) ys))) (lt-ltb y n l) ∙ ap (λ t. nat_eq x y || t) rest)
    (λ l. ap (λ t. ticks_in x (cond t (y ∷ filter (λ z. nat_lt z n) ys) (filter (λ z. nat_lt z n) ys))) (le-ltb y n l)
    ∙ rest ∙ sym (ap (λ t. t || ticks_in x ys) (ne_eqb x y (λ e. omega (arith, e, h, l)))))
    (cases_lt y n)

low-ticks : (n x : ℕ) → x < n → (ys : List ℕ) → ticks_in x (filter (λ y. nat_lt y n) ys) ≡ ticks_in x ys
low-ticks n x h [] = refl
low-ticks n x h (y ∷ ys) = low-more n x y ys h (low-ticks n x h ys)

module _ (K : System) (low : K.declared ≤ K.written) where
  declared-parts : (k : ℕ) (T : List Step) → map (λ (row : Row). declared_part K row.ticks) (rows_from k K T) ≡ map (declared_part K) T
  declared-parts k [] = refl
  declared-parts k (s ∷ T) = ap₂ (λ x xs. x ∷ xs) (lower-part K.declared K.written low s) (declared-parts (k + 1) T)

  row-ticks : (k : ℕ) (T : List Step) → map (λ (row : Row). row.ticks) (rows_from k K T) ≡ map (written_part K) T
  row-ticks k [] = refl
  row-ticks k (s ∷ T) = ap (λ xs. written_part K s ∷ xs) (row-ticks (k + 1) T)

  row-count : (k : ℕ) (T : List Step) → length (rows_from k K T) ≡ length T
  row-count k [] = refl
  row-count k (s ∷ T) = ap suc (row-count (k + 1) T)

step-part : (f : Step → Step) → f [] ≡ [] → (T : List Step) (n : ℕ) → step_at (map f T) n ≡ f (step_at T n)
step-part f e [] n = sym e
step-part f e (s ∷ T) zero = refl
step-part f e (s ∷ T) (suc n) = step-part f e T n

-- a clock of a range is below its end
range-below : (start n x : ℕ) → ticks_in x (range_with_len start n) ≡ true → x < start + n
range-below start zero x e = let clash : false ≡ true = e in absurd (cc)
range-below start (suc n) x e = by-test (nat_eq x start) refl e (λ f. range-below (start + 1) n x f)
  where
    by-test : (t : Bool) → nat_eq x start ≡ t → (t || ticks_in x (range_with_len (start + 1) n)) ≡ true →
        (ticks_in x (range_with_len (start + 1) n) ≡ true → x < start + 1 + n) → x < start + suc n
    by-test true is e rest = let same-number = eqb-true x start is in omega (arith, same-number)
    by-test false is e rest = let l = rest e in omega (arith, l)

not-both : (a b c : Bool) → (a ≡ true) → (b ≡ true → c ≡ true) → (not a || (b && not c)) ≡ false
not-both true true c e f = ap not (f refl)
not-both true false c e f = refl
not-both false b c e f = let clash : false ≡ true = e in absurd (cc)

-- THE VERDICT on the rows of a run, where each written clock is recorded
module _ (K : System) (low : K.declared ≤ K.written) (first : VerdictIsFirst K) (T : List Step)
    (complete : T ≡ completed K (map (declared_part K) T)) (run : IsRun K T) where
  rows : List Row
  rows = rows_of_steps K T

  bound : List ℕ
  bound = range_with_len 0 K.written

  rows-complete : completed_rows K rows ≡ T
  unfolding rows
  rows-complete = ap (completed K) (declared-parts K low 0 T) ∙ sym complete

  -- the rows, completed, are the steps again
  pub completed-steps : completed_rows K (rows_of_steps K T) ≡ T
  unfolding rows
  completed-steps = rows-complete

  as-recorded : (n x : ℕ) → x < K.written → is_as_recorded rows T n x ≡ true
  unfolding rows
  as-recorded n x l =
      ap (λ s. same (ticks_in x s) (ticks_in x (step_at T n))) (ap (λ xs. step_at xs n) (row-ticks K low 0 T) ∙ step-part (written_part K) refl T n)
      ∙ ap (λ t. same t (ticks_in x (step_at T n))) (low-ticks K.written x l (step_at T n))
      ∙ same-self (ticks_in x (step_at T n))

  recorded-below : (j : ℕ) → is_recorded K bound j ≡ true → K.declared + j < K.written
  unfolding bound
  recorded-below j e =
      let l = range-below 0 K.written (K.declared + j) (second (nat_lt j (length K.definitions)) (ticks_in (K.declared + j) (range_with_len 0 K.written)) e) in
      omega (arith, l)
    where
      second : (a b : Bool) → (a && b) ≡ true → b ≡ true
      second true b e = e
      second false b e = let clash : false ≡ true = e in absurd (cc)

  never-violated : (n j : ℕ) → n < length rows → j < item_count K → is_violated K bound rows n j ≡ false
  unfolding rows
  never-violated n j ln lj =
      ap (λ X. not (holds_at K X n j) || (is_recorded K bound j && not (is_as_recorded (rows_of_steps K T) X n (K.declared + j)))) rows-complete
      ∙ not-both (holds_at K T n j) (is_recorded K bound j) (is_as_recorded (rows_of_steps K T) T n (K.declared + j))
      (run n j (subst (λ m. n < m) (row-count K low 0 T) ln) lj)
      (λ e. as-recorded n (K.declared + j) (recorded-below j e))

  pub verdict-run : verdict K (range_with_len 0 K.written) (rows_of_steps K T) ≡ Run (length T)
  unfolding rows bound
  verdict-run = first.run bound rows never-violated ∙ ap Run (row-count K low 0 T)
