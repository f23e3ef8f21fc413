-- The members of lists.
use Rattle.std.proofs.Common.{◌≡◌, ℕ, zero, suc, ◌<◌, List, [], ◌∷◌, ◌++◌, length, Bool, true, false, ◌||◌, nat_eq, nat_lt, get_or, refl, sym, ap, ◌∙◌, arith}
use Rattle.std.specs.List.{All, list_all, Contains}
use Rattle.std.proofs.lemmas.Bool.{and_parts, and_from, or_left, or_right, eq-eqb, lt-ltb, eqb-true}
use Rattle.std.proofs.lemmas.List.Elements.{All-head, All-tail, Contains-append_right}
use Rattle.ccsl_base.specs.Clocks.{ticks_in, is_ascending}

list_all-push : (p : ℕ → Bool) (xs : List ℕ) (n : ℕ) → list_all p xs ≡ true → p n ≡ true → list_all p (xs ++ n ∷ []) ≡ true
list_all-push p [] n h k = and_from (p n) true k refl
list_all-push p (x ∷ xs) n h k =
    let parts = and_parts (p x) (list_all p xs) h in
    and_from (p x) (list_all p (xs ++ n ∷ [])) parts.0 (list_all-push p xs n parts.1 k)

-- a list stays ascending with a number behind it that is above all
pub ascending-push : (xs : List ℕ) (n : ℕ) → is_ascending xs ≡ true → All (λ i. i < n) xs → is_ascending (xs ++ n ∷ []) ≡ true
ascending-push [] n h b = refl
ascending-push (x ∷ xs) n h b =
    let parts = and_parts (list_all (nat_lt x) xs) (is_ascending xs) h in
    and_from (list_all (nat_lt x) (xs ++ n ∷ [])) (is_ascending (xs ++ n ∷ []))
    (list_all-push (nat_lt x) xs n parts.0 (lt-ltb x n (All-head (λ i. i < n) x xs b)))
    (ascending-push xs n parts.1 (All-tail (λ i. i < n) x xs b))

ticks-at : (xs : List ℕ) (x k : ℕ) → k < length xs → get_or xs k x ≡ x → ticks_in x xs ≡ true
ticks-at [] x k l e = absurd (omega arith)
ticks-at (y ∷ ys) x zero l e = or_left (nat_eq x y) (ticks_in x ys) (eq-eqb x y (sym e))
ticks-at (y ∷ ys) x (suc k) l e = or_right (nat_eq x y) (ticks_in x ys) (ticks-at ys x k (omega arith) e)

pub contains-ticks : (xs : List ℕ) (x : ℕ) → Contains xs x → ticks_in x xs ≡ true
contains-ticks xs x c = ticks-at xs x c.0 c.1 c.2

pub ticks-contains : (xs : List ℕ) (x : ℕ) → ticks_in x xs ≡ true → Contains xs x
ticks-contains [] x t = absurd (cc)
ticks-contains (y ∷ ys) x t = by-first (nat_eq x y) refl (λ r. ticks-contains ys x r)
  where
    by-first : (b : Bool) → nat_eq x y ≡ b → (ticks_in x ys ≡ true → Contains ys x) → Contains (y ∷ ys) x
    by-first true e k = (zero, omega arith, sym (eqb-true x y e))
    by-first false e k = Contains-append_right (y ∷ []) ys x (k (sym (ap (λ b. b || ticks_in x ys) e) ∙ t))
