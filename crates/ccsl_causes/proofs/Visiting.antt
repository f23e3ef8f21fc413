-- A step that is visited clock by clock: of the items that have a clock each, those change once whose clock ticks.
use Rattle.std.proofs.Common.{◌≡◌, ◌≢◌, ℕ, ◌<◌, ◌≤◌, List, ◌∷◌, Bool, true, false, ◌||◌, nat_eq, nat_lt, length, get_or, set, if◌then◌else◌, refl, sym, ap}
use Rattle.std.proofs.Common.{◌∙◌, arith, eq-eqb, length-set, get_or-set_same, get_or-set_other}
use Rattle.std.specs.List.{list_all}
use Rattle.std.proofs.lemmas.Bool.{and_parts, eqb-true}
use Rattle.ccsl_base.specs.Clocks.{ticks_in, is_ascending}
use Rattle.ccsl_base.proofs.Ascending.{above}
use Rattle.ccsl_base.proofs.Sets.{first-ticks}

-- what becomes of the item of a clock
abbrev pub visited : {A : Type 0} → (ℕ → A → A) → Bool → ℕ → A → A
visited f tick x a = if tick then f x a else a

-- what has changed so far, and the clocks that are still to be visited
pub record IsVisiting {A : Type 0} (f : ℕ → A → A) (d : A) (step : List ℕ) (old : List A) (rest : List ℕ) (now : List A) : Type 0 where
  pub items : length now ≡ length old
  pub order : is_ascending rest ≡ true
  pub visits : (x : ℕ) → x < length old → visited f (ticks_in x rest) x (get_or now x d) ≡ visited f (ticks_in x step) x (get_or old x d)

-- a clock stands once in a set
not-behind : (c : ℕ) (rest : List ℕ) → is_ascending (c ∷ rest) ≡ true → ticks_in c rest ≡ false
not-behind c rest order = by (ticks_in c rest) refl
  where
    by : (t : Bool) → ticks_in c rest ≡ t → ticks_in c rest ≡ false
    by false e = e
    by true e = absurd (omega (arith, above c rest c (and_parts (list_all (nat_lt c) rest) (is_ascending rest) order).0 e))

-- another clock is to be visited where it was before
other : (c x : ℕ) (rest : List ℕ) → x ≢ c → ticks_in x (c ∷ rest) ≡ ticks_in x rest
other c x rest apart = by (nat_eq x c) refl
  where
    by : (t : Bool) → nat_eq x c ≡ t → ticks_in x (c ∷ rest) ≡ ticks_in x rest
    by true e = absurd (apart (eqb-true x c e))
    by false e = ap (λ t. t || ticks_in x rest) e

module _ {A : Type 0} (f : ℕ → A → A) (d : A) (step rest : List ℕ) (old now : List A) (c : ℕ) (is : IsVisiting f d step old (c ∷ rest) now) where
  later : is_ascending rest ≡ true
  later = (and_parts (list_all (nat_lt c) rest) (is_ascending rest) is.order).1

  -- a clock is visited
  pub visiting-one : c < length now → IsVisiting f d step old rest (set now c (f c (get_or now c d)))
  visiting-one inside = record {
    items = length-set now c (f c (get_or now c d)) ∙ is.items;
    order = later;
    visits = λ x below. by x below (nat_eq x c) refl;
  }
    where
      by : (x : ℕ) → x < length old → (t : Bool) → nat_eq x c ≡ t
          → visited f (ticks_in x rest) x (get_or (set now c (f c (get_or now c d))) x d) ≡ visited f (ticks_in x step) x (get_or old x d)
      by x below true e =
          let same = eqb-true x c e in
          let here : visited f (ticks_in c rest) c (get_or (set now c (f c (get_or now c d))) c d) ≡ f c (get_or now c d) =
          ap (λ t. visited f t c (get_or (set now c (f c (get_or now c d))) c d)) (not-behind c rest is.order)
          ∙ get_or-set_same now c (f c (get_or now c d)) d inside in
          let before : visited f (ticks_in c (c ∷ rest)) c (get_or now c d) ≡ f c (get_or now c d) =
          ap (λ t. visited f t c (get_or now c d)) (first-ticks c rest) in
          rw same (here ∙ sym before ∙ is.visits c (rw (← same) below))
      by x below false e =
          let apart : x ≢ c = λ same. (let clash : false ≡ true = sym e ∙ eq-eqb x c same in cc) in
          ap (λ a. visited f (ticks_in x rest) x a) (get_or-set_other now c x (f c (get_or now c d)) d apart)
          ∙ ap (λ t. visited f t x (get_or now x d)) (sym (other c x rest apart))
          ∙ is.visits x below

  -- a clock that has no item is passed
  pub visiting-none : length now ≤ c → IsVisiting f d step old rest now
  visiting-none outside = record {
    items = is.items;
    order = later;
    visits = λ x below.
        ap (λ t. visited f t x (get_or now x d)) (sym (other c x rest (λ same. omega (arith, same, below, outside, is.items))))
        ∙ is.visits x below;
  }
