-- Ascending clocks, and those that tick among them.
use Rattle.std.proofs.Common.{◌≡◌, ℕ, ◌+◌, ◌<◌, List, [], ◌∷◌, ◌++◌, length, take, drop, get_or, drop-cons, add-one, true, false, nat_lt}
use Rattle.std.proofs.Common.{cond, filter, map, refl, sym, ap, ◌∙◌, subst}
use Rattle.std.specs.List.{list_all}
use Rattle.std.proofs.lemmas.Bool.{ltb-true, and_parts}
use Rattle.std.proofs.lemmas.List.{take_more, map-append, take-append-drop, length-map}
use Rattle.std.proofs.Math.Seq.{take-append_seam}
use Rattle.ccsl_base.specs.Clocks.{is_ascending, are_below}
use Rattle.ccsl_bind.proofs.Above.{AllBelow}
use Rattle.ccsl_vcd_read.specs.declared.marks.Mark.{Mark}
use Rattle.ccsl_vcd_read.specs.Marks.{is_ticking, ticking}

-- the last of ascending numbers is above the others
last-above : (xs : List ℕ) (y : ℕ) (ys : List ℕ) → is_ascending (xs ++ y ∷ ys) ≡ true → AllBelow y xs
last-above [] y ys h = tt
last-above (x ∷ xs) y ys h =
    let p = and_parts (list_all (nat_lt x) (xs ++ y ∷ ys)) (is_ascending (xs ++ y ∷ ys)) h in
    (first xs p.0, last-above xs y ys p.1)
  where
    first : (zs : List ℕ) → list_all (nat_lt x) (zs ++ y ∷ ys) ≡ true → x < y
    first [] q = ltb-true x y ((and_parts (nat_lt x y) (list_all (nat_lt x) ys) q).0)
    first (z ∷ zs) q = first zs ((and_parts (nat_lt x z) (list_all (nat_lt x) (zs ++ y ∷ ys)) q).1)

ticking-below : (y : ℕ) (ms : List Mark) → AllBelow y (map (λ m. m.clock) ms) → AllBelow y (ticking ms)
ticking-below y [] h = tt
ticking-below y (m ∷ ms) h =
    elim (is_ticking m) as (λ w. AllBelow y (map (λ x. x.clock) (cond w (m ∷ filter is_ticking ms) (filter is_ticking ms)))) [
      | true ↦ (h.0, ticking-below y ms h.1)
      | false ↦ ticking-below y ms h.1
    ]

-- the mark at a place, behind those before it
pub record At (bound : ℕ) (ms : List Mark) (i : ℕ) (m : Mark) : Type 0 where
  pub fits : m.clock < bound
  pub above : AllBelow m.clock (ticking (take i ms))
  pub more : take (i + 1) ms ≡ take i ms ++ m ∷ []

below-at : (bound : ℕ) (xs ys : List ℕ) (y : ℕ) → are_below bound (xs ++ y ∷ ys) ≡ true → y < bound
below-at bound [] ys y h = ltb-true y bound ((and_parts (nat_lt y bound) (are_below bound ys) h).0)
below-at bound (x ∷ xs) ys y h = below-at bound xs ys y ((and_parts (nat_lt x bound) (are_below bound (xs ++ y ∷ ys)) h).1)

-- the clocks round a place
clocks-at : (ms : List Mark) (i : ℕ) (d : Mark) → i < length ms
    → map (λ m. m.clock) ms ≡ map (λ m. m.clock) (take i ms) ++ ((get_or ms i d).clock ∷ map (λ m. m.clock) (drop (i + 1) ms))
clocks-at ms i d h =
    ap (map (λ (m : Mark). m.clock)) (sym (take-append-drop i ms)
    ∙ ap (λ xs. take i ms ++ xs) (drop-cons ms i d h ∙ ap (λ k. get_or ms i d ∷ drop k ms) (sym (add-one i))))
    ∙ map-append (λ (m : Mark). m.clock) (take i ms) (get_or ms i d ∷ drop (i + 1) ms)

pub at-place : (bound : ℕ) (ms : List Mark) (i : ℕ) (d : Mark) → i < length ms → is_ascending (map (λ m. m.clock) ms) ≡ true
    → are_below bound (map (λ m. m.clock) ms) ≡ true → At bound ms i (get_or ms i d)
at-place bound ms i d h asc low =
    let e = clocks-at ms i d h in
    record {
      fits = below-at bound _ _ (get_or ms i d).clock (ap (are_below bound) (sym e) ∙ low);
      above = ticking-below (get_or ms i d).clock (take i ms)
          (last-above (map (λ m. m.clock) (take i ms)) (get_or ms i d).clock _ (ap is_ascending (sym e) ∙ asc));
      more = take_more ms i d h;
    }

-- Marks keep their clocks.

pub same-clocks : (f : Mark → Mark) → ((m : Mark) → (f m).clock ≡ m.clock) → (ms : List Mark) → map (λ m. m.clock) (map f ms) ≡ map (λ m. m.clock) ms
same-clocks f h [] = refl
same-clocks f h (m ∷ ms) = rw (h m, same-clocks f h ms) refl

-- what a slice of marks was written over
pub kept : (P : List ℕ → Type 0) (f : Mark → Mark) (old now new : List Mark) (n : ℕ) → ((m : Mark) → (f m).clock ≡ m.clock) → now ≡ old → length now ≡ n
    → new ≡ map f now
    → P (map (λ m. m.clock) old) → P (map (λ m. m.clock) (take n (new ++ drop (length new) old)))
kept P f old now new n h e l w p =
    let len : length new ≡ n = ap length w ∙ length-map now f ∙ l in
    subst P (sym (ap (map (λ (m : Mark). m.clock)) (ap (λ k. take k (new ++ drop (length new) old)) (sym len) ∙ take-append_seam new (drop (length new) old) ∙ w
    ∙ ap (map f) e) ∙ same-clocks f h old)) p
