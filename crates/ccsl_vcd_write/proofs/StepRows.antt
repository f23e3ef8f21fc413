-- The rows of written steps.
use Rattle.std.proofs.Common.{◌≡◌, ◌≢◌, ℕ, zero, suc, ◌+◌, ◌≤◌, ◌<◌, List, [], ◌∷◌, ◌++◌, length, map, filter, Bool, true, false, ◌&&◌, ◌||◌, nat_lt, nat_eq}
use Rattle.std.proofs.Common.{cond, refl, sym, ap, ap₂, subst, ◌∙◌, arith, append_assoc, append-nil}
use Rattle.std.specs.List.{list_all, AllByRecursion}
use Rattle.std.proofs.lemmas.Bool.{and_parts, ltb-true, lt-ltb}
use Rattle.std.proofs.lemmas.Grind.{common_steps}
use Rattle.ccsl_base.specs.Clocks.{ticks_in, is_ascending}
use Rattle.ccsl_base.specs.declared.rows.Row.{Row}
use Rattle.ccsl_vcd.specs.Binding.{Bound}
use Rattle.ccsl_vcd.specs.Places.{Change}
use Rattle.ccsl_vcd.specs.Rows.{ticks, event_ticks, rows, has_ticks}
use Rattle.ccsl_vcd.proofs.RowLaws.{Earlier, Now, rows-all, not-eq}
use Rattle.ccsl_vcd_write.specs.Code.{code_of}
use Rattle.ccsl_vcd_write.proofs.CodeLaws.{codes-equal}
use Rattle.ccsl_vcd_write.proofs.Binds.{own_bound, bounds}
use Rattle.ccsl_vcd_write.proofs.BodyStory.{AreBelow, step_changes, steps_changes}

-- ascending numbers, from one on and below another
abbrev pub IsWithin : ℕ → ℕ → List ℕ → Type 0
IsWithin low high [] = Unit {0}
IsWithin low high (x ∷ xs) = (low ≤ x) × (x < high) × IsWithin (x + 1) high xs

all-above : (x : ℕ) (xs : List ℕ) → list_all (nat_lt x) xs ≡ true → AllByRecursion (λ y. x + 1 ≤ y) xs
all-above x [] h = tt
all-above x (y ∷ ys) h =
    let p = and_parts (nat_lt x y) (list_all (nat_lt x) ys) h in
    let above : x < y = ltb-true x y p.0 in
    (omega arith, all-above x ys p.1)

-- the members of a set that are below a number
pub within : (low high : ℕ) (xs : List ℕ) → AllByRecursion (λ x. low ≤ x) xs → is_ascending xs ≡ true → IsWithin low high (filter (λ x. nat_lt x high) xs)
within low high [] a h = tt
within low high (x ∷ xs) a h =
    let p = and_parts (list_all (nat_lt x) xs) (is_ascending xs) h in
    (elim (nat_lt x high) as (λ w. nat_lt x high ≡ w → IsWithin low high (cond w (x ∷ filter (λ y. nat_lt y high) xs) (filter (λ y. nat_lt y high) xs))) [
      | true ↦ λ e. (a.0, ltb-true x high e, within (x + 1) high xs (all-above x xs p.0) p.1)
      | false ↦ λ e. within low high xs a.1 p.1
    ]) refl

pub all-from-0 : (xs : List ℕ) → AllByRecursion (λ x. 0 ≤ x) xs
all-from-0 [] = tt
all-from-0 (x ∷ xs) = (omega arith, all-from-0 xs)

pub are-below : (low high : ℕ) (xs : List ℕ) → IsWithin low high xs → AreBelow high xs
are-below low high [] h = tt
are-below low high (x ∷ xs) h = (h.1, are-below (x + 1) high xs h.2)

unequal' : (x y : ℕ) → y < x → nat_eq x y ≡ false
unequal' x y h = grind (arith, common_steps)

absent : (low high y : ℕ) (xs : List ℕ) → IsWithin low high xs → y < low → ticks_in y xs ≡ false
absent low high y [] h l = refl
absent low high y (x ∷ xs) h l = let a = h.0 in rw (not-eq y x (omega arith)) (absent (x + 1) high y xs h.2 (omega arith))

-- the bound clocks that pass a test which tells the members of a set
pub picked : (test : Bound → Bool) (low high n : ℕ) (xs : List ℕ) → low + n ≡ high → IsWithin low high xs
    → ((y : ℕ) → low ≤ y → test (own_bound y) ≡ ticks_in y xs)
    → map (λ b. b.clock) (filter test (bounds low n)) ≡ xs
picked test low high zero [] e h t = refl
picked test low high zero (x ∷ xs) e h t = let a = h.0 in let b = h.1 in absurd (omega arith)
picked test low high (suc n) [] e h t = rw (t low (omega arith)) (picked test (low + 1) high n [] (omega arith) tt (λ y l. t y (omega arith)))
picked test low high (suc n) (x ∷ xs) e h t =
    (elim (nat_eq low x) as (λ w. nat_eq low x ≡ w → map (λ b. b.clock) (filter test (bounds low (suc n))) ≡ x ∷ xs) [
      | true ↦ λ q.
          let same : low ≡ x = grind (arith, common_steps) in
          let here : test (own_bound low) ≡ true = t low (omega arith) ∙ ap (λ w. w || ticks_in low xs) q in
          let From : ℕ → Type 0 = λ y. IsWithin (y + 1) high xs in
          rw here (ap₂ (λ (y : ℕ) (ys : List ℕ). y ∷ ys) same (picked test (low + 1) high n xs (omega arith) (subst From (sym same) h.2)
          (λ y l. t y (omega (arith, l)) ∙ ap (λ w. w || ticks_in y xs) (unequal' y x (omega (arith, l, same))))))
      | false ↦ λ q.
          let other : low + 1 ≤ x = let a = h.0 in grind (arith, common_steps) in
          let here : test (own_bound low) ≡ false = t low (omega arith) ∙ absent (low + 1) high low (x ∷ xs) (other, h.1, h.2) (omega arith) in
          rw here (picked test (low + 1) high n (x ∷ xs) (omega arith) (other, h.1, h.2) (λ y l. t y (omega (arith, l))))
    ]) refl

-- an event ticks where a change names its code
pub event-member : (k y : ℕ) (xs : List ℕ) → event_ticks (code_of y) (step_changes k xs) ≡ ticks_in y xs
event-member k y [] = refl
event-member k y (x ∷ xs) =
    rw (codes-equal y x) (and-true (nat_eq y x) (event_ticks (code_of y) (step_changes k xs)) ∙ ap (λ w. nat_eq y x || w) (event-member k y xs))
  where
    and-true : (a b : Bool) → ((a && true) || b) ≡ (a || b)
    and-true true b = refl
    and-true false b = refl

pub step-now : (k : ℕ) (xs : List ℕ) → Now k (step_changes k xs)
step-now k [] = tt
step-now k (x ∷ xs) = (refl, step-now k xs)

pub earlier-step : (k : ℕ) (xs : List ℕ) → Earlier (k + 1) (step_changes k xs)
earlier-step k [] = tt
earlier-step k (x ∷ xs) = (omega arith, earlier-step k xs)

pub earlier-more : (k : ℕ) (old cur : List Change) → Earlier k old → Earlier (k + 1) cur → Earlier (k + 1) (old ++ cur)
earlier-more k [] cur e c = c
earlier-more k (o ∷ old) cur e c = (let before = e.0 in omega arith, earlier-more k old cur e.1 c)

some-tick : (xs : List ℕ) → xs ≢ [] → nat_lt 0 (length xs) ≡ true
some-tick [] h = absurd (h refl)
some-tick (x ∷ xs) h = lt-ltb 0 (length (x ∷ xs)) (omega arith)

-- a row for each step, from number k on
abbrev pub plain_rows : ℕ → List (List ℕ) → List Row
plain_rows k [] = []
plain_rows k (xs ∷ steps) = record { time = k; ticks = xs } ∷ plain_rows (k + 1) steps

-- a set of clocks below a number that has a member
pub record IsTicking (n : ℕ) (xs : List ℕ) : Type 0 where
  pub within : IsWithin 0 n xs
  pub some : xs ≢ []

step-row : (n k : ℕ) (old : List Change) (xs : List ℕ) → IsTicking n xs → Earlier k old
    → rows (bounds 0 n) (old ++ step_changes k xs) ≡ rows (bounds 0 n) old ++ record { time = k; ticks = xs } ∷ []
step-row n k old xs s e =
    let cur : List Change = step_changes k xs in
    let ticked : map (λ b. b.clock) (filter (ticks cur old) (bounds 0 n)) ≡ xs =
    picked (ticks cur old) 0 n n xs (omega arith) s.within (λ y l. event-member k y xs) in
    rows-all (bounds 0 n) k old cur e (step-now k xs)
    ∙ ap (λ (ys : List ℕ). rows (bounds 0 n) old ++ filter has_ticks (record { time = k; ticks = ys } ∷ [])) ticked
    ∙ ap (λ w. rows (bounds 0 n) old ++ cond w (record { time = k; ticks = xs } ∷ []) []) (some-tick xs s.some)

-- The rows of the steps' changes are a row for each step.
pub steps-rows : (n k : ℕ) (old : List Change) (steps : List (List ℕ)) → AllByRecursion (IsTicking n) steps → Earlier k old
    → rows (bounds 0 n) (old ++ steps_changes k steps) ≡ rows (bounds 0 n) old ++ plain_rows k steps
steps-rows n k old [] s e = ap (rows (bounds 0 n)) (append-nil old) ∙ sym (append-nil (rows (bounds 0 n) old))
steps-rows n k old (xs ∷ steps) s e =
    let cur : List Change = step_changes k xs in
    ap (rows (bounds 0 n)) (sym (append_assoc old cur (steps_changes (k + 1) steps)))
    ∙ steps-rows n (k + 1) (old ++ cur) steps s.1 (earlier-more k old cur e (earlier-step k xs))
    ∙ ap (λ (rs : List Row). rs ++ plain_rows (k + 1) steps) (step-row n k old xs s.0 e)
    ∙ append_assoc (rows (bounds 0 n) old) (record { time = k; ticks = xs } ∷ []) (plain_rows (k + 1) steps)
