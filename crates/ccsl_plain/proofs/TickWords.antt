-- Words on ticks, as std has them for lists.
use Rattle.std.proofs.Common.{◌≡◌, ℕ, zero, suc, ◌+◌, ◌<◌, ◌≤◌, ◌⊎◌, inl, inr, ⊎_elim, min, List, [], ◌∷◌, length, drop, get_or, drop-cons, Bool, true, false}
use Rattle.std.proofs.Common.{cond, not, ◌&&◌, ◌||◌, nat_eq, if◌then◌else◌, refl, sym, ap, ap₂, ◌∙◌, arith}
use Rattle.std.specs.List.{count_by}
use Rattle.std.proofs.lemmas.List.Recursion.{is_count_by}
use Rattle.std.proofs.lemmas.Bool.{cases_lt, ne_eqb}
use Rattle.ccsl_plain.specs.declared.ticks.Since.{Since}
use Rattle.ccsl_plain.specs.declared.ticks.Since.TheVariants.{NoneAfter, NoneFrom, Just, Fewer}
use Rattle.ccsl_kernel.specs.Ticks.{count, ever, waits, waits_weakly}
use Rattle.ccsl_plain.specs.Since.{wait_of, some_waits}
use Rattle.ccsl_base.proofs.Cases.{more_one}

pub count-is_count_by : (ts : List Bool) → count ts ≡ count_by (λ t. t) ts
count-is_count_by = is_count_by count (λ t. t) refl one
  where
    one : (t : Bool) (ts : List Bool) → count (t ∷ ts) ≡ cond t (1 + count ts) (count ts)
    one true ts = omega arith
    one false ts = refl

count-cons : (t : Bool) (ts : List Bool) → count (t ∷ ts) ≡ (if t then count ts + 1 else count ts)
count-cons true ts = omega arith
count-cons false ts = refl

none-ever : (ts : List Bool) → not (ever ts) ≡ nat_eq (count ts) 0
none-ever [] = refl
none-ever (true ∷ ts) = sym (ne_eqb (suc (count ts)) 0 (λ e. omega arith))
none-ever (false ∷ ts) = none-ever ts

-- one more step at the front
waits-cons : (s : Since) (t u : Bool) (ts us : List Bool) → some_waits s (t ∷ ts) (u ∷ us) ≡ ((t && wait_of s u (count us)) || some_waits s ts us)
waits-cons NoneAfter t u ts us = ap (λ v. (t && v) || waits ts us) (none-ever us)
waits-cons NoneFrom t true ts us = refl
waits-cons NoneFrom t false ts us = ap (λ v. (t && v) || waits_weakly ts us) (none-ever us)
waits-cons (Just k) t u ts us = refl
waits-cons (Fewer m) t u ts us = refl

waits-empty : (s : Since) (us : List Bool) → some_waits s [] us ≡ false
waits-empty NoneAfter us = refl
waits-empty NoneFrom us = refl
waits-empty (Just k) us = refl
waits-empty (Fewer m) us = refl

waits-none : (s : Since) (ts : List Bool) → some_waits s ts [] ≡ false
waits-none s [] = waits-empty s []
waits-none NoneAfter (t ∷ ts) = refl
waits-none NoneFrom (t ∷ ts) = refl
waits-none (Just k) (t ∷ ts) = refl
waits-none (Fewer m) (t ∷ ts) = refl

-- from a place on, by one step
pub waits-at : (s : Since) (a d : List Bool) (i : ℕ) (x y : Bool) → i < length a → i < length d →
    some_waits s (drop i a) (drop i d) ≡ ((get_or a i x && wait_of s (get_or d i y) (count (drop (i + 1) d))) || some_waits s (drop (i + 1) a) (drop (i + 1) d))
waits-at s a d i x y l m =
    ap₂ (some_waits s) (drop-cons a i x l) (drop-cons d i y m)
    ∙ waits-cons s (get_or a i x) (get_or d i y) (drop (suc i) a) (drop (suc i) d)
    ∙ ap (λ (k : ℕ). (get_or a i x && wait_of s (get_or d i y) (count (drop k d))) || some_waits s (drop k a) (drop k d)) (more_one i)

pub count-at : (d : List Bool) (i : ℕ) (y : Bool) → i < length d
    → count (drop i d) ≡ (if get_or d i y then count (drop (i + 1) d) + 1 else count (drop (i + 1) d))
count-at d i y m =
    ap count (drop-cons d i y m) ∙ count-cons (get_or d i y) (drop (suc i) d)
    ∙ ap (λ (k : ℕ). if get_or d i y then count (drop k d) + 1 else count (drop k d)) (more_one i)

pub waits-past : (s : Since) (a d : List Bool) (i : ℕ) → i ≡ min (length a) (length d) → some_waits s (drop i a) (drop i d) ≡ false
waits-past s a d i e =
    ⊎_elim
    (λ (l : length a ≤ i). ap (λ xs. some_waits s xs (drop i d)) (drop-all a i l) ∙ waits-empty s (drop i d))
    (λ (l : length d ≤ i). ap (some_waits s (drop i a)) (drop-all d i l) ∙ waits-none s (drop i a))
    (which (cases_lt (length a) (length d)))
  where
    drop-all : (xs : List Bool) (i : ℕ) → length xs ≤ i → drop i xs ≡ []
    drop-all [] zero l = refl
    drop-all [] (suc i) l = refl
    drop-all (x ∷ xs) zero l = let z : ⊥ = omega arith in absurd z
    drop-all (x ∷ xs) (suc i) l = drop-all xs i (omega arith)

    which : (length a < length d) ⊎ (length d ≤ length a) → (length a ≤ i) ⊎ (length d ≤ i)
    which (inl l) = inl (omega (arith, e))
    which (inr l) = inr (omega (arith, e))

module _ (s : Since) (a d : List Bool) (i : ℕ) (x y : Bool) (l : i < length a) (m : i < length d) where
  pub found_here : get_or a i x ≡ true → wait_of s (get_or d i y) (count (drop (i + 1) d)) ≡ true → some_waits s (drop i a) (drop i d) ≡ true
  found_here t w = waits-at s a d i x y l m ∙ ap₂ (λ t w. (t && w) || some_waits s (drop (i + 1) a) (drop (i + 1) d)) t w

  pub not_ticking : get_or a i x ≡ false → some_waits s (drop i a) (drop i d) ≡ some_waits s (drop (i + 1) a) (drop (i + 1) d)
  not_ticking t = waits-at s a d i x y l m
      ∙ ap (λ t. (t && wait_of s (get_or d i y) (count (drop (i + 1) d))) || some_waits s (drop (i + 1) a) (drop (i + 1) d)) t

  pub not_waiting : wait_of s (get_or d i y) (count (drop (i + 1) d)) ≡ false
      → some_waits s (drop i a) (drop i d) ≡ some_waits s (drop (i + 1) a) (drop (i + 1) d)
  not_waiting w = waits-at s a d i x y l m ∙ on (get_or a i x) w
    where
      on : (t : Bool) {w : Bool} → w ≡ false → ((t && w) || some_waits s (drop (i + 1) a) (drop (i + 1) d)) ≡ some_waits s (drop (i + 1) a) (drop (i + 1) d)
      on true e = ap (λ w. w || some_waits s (drop (i + 1) a) (drop (i + 1) d)) e
      on false e = refl

-- how often d ticks after i
pub after_tick : (d : List Bool) (i : ℕ) (y : Bool) → i < length d → get_or d i y ≡ true → count (drop i d) ≡ count (drop (i + 1) d) + 1
after_tick d i y m e = count-at d i y m ∙ ap (λ t. if t then count (drop (i + 1) d) + 1 else count (drop (i + 1) d)) e

pub after_none : (d : List Bool) (i : ℕ) (y : Bool) → i < length d → get_or d i y ≡ false → count (drop i d) ≡ count (drop (i + 1) d)
after_none d i y m e = count-at d i y m ∙ ap (λ t. if t then count (drop (i + 1) d) + 1 else count (drop (i + 1) d)) e
