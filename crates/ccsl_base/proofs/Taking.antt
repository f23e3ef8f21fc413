-- The members of a set below a bound, taken in order.
use Rattle.std.proofs.Common.{◌≡◌, ℕ, ◌<◌, ◌≤◌, List, [], ◌∷◌, ◌++◌, filter, true, nat_lt, cond, refl, sym, ap, ◌∙◌, append_assoc, append-nil, lt-ltb, le-ltb}
use Rattle.std.specs.List.{list_all}
use Rattle.std.proofs.lemmas.Bool.{and_parts, and_from}
use Rattle.std.proofs.lemmas.List.Folds.{list_all-append}
use Rattle.ccsl_base.specs.Clocks.{with_clock, is_ascending, are_below}
use Rattle.ccsl_base.proofs.Ascending.{with_clock-last}

-- how far they were taken: the taken ones and those of the rest are all of them, and the rest stands behind them
pub record IsTaking (bound : ℕ) (ticks set rest : List ℕ) : Type 0 where
  pub whole : set ++ filter (λ x. nat_lt x bound) rest ≡ filter (λ x. nat_lt x bound) ticks
  pub order : is_ascending (set ++ rest) ≡ true

-- all members before one that stands behind them are below it
front-below : (set rest : List ℕ) (x : ℕ) → is_ascending (set ++ x ∷ rest) ≡ true → are_below x set ≡ true
front-below [] rest x h = refl
front-below (y ∷ set) rest x h =
    let w = and_parts (list_all (nat_lt y) (set ++ x ∷ rest)) (is_ascending (set ++ x ∷ rest)) h in
    let parts = and_parts (list_all (nat_lt y) set) (list_all (nat_lt y) (x ∷ rest)) (sym (list_all-append (nat_lt y) set (x ∷ rest)) ∙ w.0) in
    and_from (nat_lt y x) (are_below x set) (and_parts (nat_lt y x) (list_all (nat_lt y) rest) parts.1).0 (front-below set rest x w.1)

-- one left out
without-one : (set rest : List ℕ) (x : ℕ) → is_ascending (set ++ x ∷ rest) ≡ true → is_ascending (set ++ rest) ≡ true
without-one [] rest x h = (and_parts (list_all (nat_lt x) rest) (is_ascending rest) h).1
without-one (y ∷ set) rest x h =
    let w = and_parts (list_all (nat_lt y) (set ++ x ∷ rest)) (is_ascending (set ++ x ∷ rest)) h in
    let parts = and_parts (list_all (nat_lt y) set) (list_all (nat_lt y) (x ∷ rest)) (sym (list_all-append (nat_lt y) set (x ∷ rest)) ∙ w.0) in
    and_from (list_all (nat_lt y) (set ++ rest)) (is_ascending (set ++ rest))
    (list_all-append (nat_lt y) set rest ∙ and_from (list_all (nat_lt y) set) (list_all (nat_lt y) rest) parts.0
    (and_parts (nat_lt y x) (list_all (nat_lt y) rest) parts.1).1)
    (without-one set rest x w.1)

-- one below the bound is taken
pub taking-in : (bound : ℕ) (ticks set rest : List ℕ) (x : ℕ) → x < bound → IsTaking bound ticks set (x ∷ rest) → IsTaking bound ticks (with_clock x set) rest
taking-in bound ticks set rest x l t =
    let last : with_clock x set ≡ set ++ x ∷ [] = with_clock-last x set (front-below set rest x t.order) in
    record {
      whole =
          ap (λ s. s ++ filter (λ y. nat_lt y bound) rest) last
          ∙ append_assoc set (x ∷ []) (filter (λ y. nat_lt y bound) rest)
          ∙ ap (λ b. set ++ cond b (x ∷ filter (λ y. nat_lt y bound) rest) (filter (λ y. nat_lt y bound) rest)) (sym (lt-ltb x bound l))
          ∙ t.whole;
      order = ap (λ s. is_ascending (s ++ rest)) last ∙ ap is_ascending (append_assoc set (x ∷ []) rest) ∙ t.order;
    }

-- another one is not
pub taking-out : (bound : ℕ) (ticks set rest : List ℕ) (x : ℕ) → bound ≤ x → IsTaking bound ticks set (x ∷ rest) → IsTaking bound ticks set rest
taking-out bound ticks set rest x l t = record {
  whole = ap (λ b. set ++ cond b (x ∷ filter (λ y. nat_lt y bound) rest) (filter (λ y. nat_lt y bound) rest)) (sym (le-ltb x bound l)) ∙ t.whole;
  order = without-one set rest x t.order;
}

pub taken : (bound : ℕ) (ticks set : List ℕ) → IsTaking bound ticks set [] → set ≡ filter (λ x. nat_lt x bound) ticks
taken bound ticks set t = sym (append-nil set) ∙ t.whole
