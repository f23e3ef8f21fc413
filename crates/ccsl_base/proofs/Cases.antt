-- Truth values, options and short lists, case by case.
use Rattle.std.proofs.Common.{◌≡◌, ℕ, suc, ◌+◌, ◌-◌, ◌<◌, ◌≤◌, List, [], ◌∷◌, ◌++◌, length, take, drop, take_all, length-drop, Bool, true, false, nat_lt}
use Rattle.std.proofs.Common.{nat_le, Option, Some, None, is_some, slice_get, refl, arith}
use Rattle.std.proofs.Common.{Ok, Err}
use Rattle.std.specs.declared.result.Result.{Result}
use Rattle.std.specs.Result.{IfOk, IfErr}
use Rattle.std.proofs.lemmas.Grind.{common_steps}

pub some-same : {A : Type 0} (x y : A) → Some x ≡ Some y → x ≡ y
some-same x y e = cc

pub none-of : {A : Type 0} (o : Option A) → is_some o ≡ false → o ≡ None
none-of None e = refl
none-of (Some a) e = cc

pub no-items : (xs : List ℕ) → length xs ≡ 0 → xs ≡ []
no-items [] e = refl
no-items (x ∷ xs) e = absurd (omega arith)

pub get-last : {A : Type 0} (xs : List A) (x : A) → slice_get (xs ++ x ∷ []) (length xs) ≡ Some x
get-last [] x = refl
get-last (z ∷ xs) x = get-last xs x

-- what `&xs[i..]` has
abbrev pub rest_at : ℕ → List ℕ → List ℕ
rest_at i xs = take (length xs - i) (drop i xs)

pub rest-is : (i : ℕ) (xs : List ℕ) → rest_at i xs ≡ drop i xs
rest-is i xs = take_all (length xs - i) (drop i xs) (omega (arith, length-drop i xs))

pub less-suc : (k n : ℕ) → nat_lt (1 + k) (suc n) ≡ nat_lt k n
less-suc k n = grind (arith, common_steps)

pub not-less : (k n : ℕ) → nat_lt k n ≡ false → n ≤ k
not-less k n e = grind (arith, common_steps)

pub not-within : (a b : ℕ) → nat_le a b ≡ false → b < a
not-within a b e = grind (arith, common_steps)

pub one_more : (n : ℕ) → 1 + n ≡ suc n
one_more n = omega arith

pub more_one : (n : ℕ) → suc n ≡ n + 1
more_one n = omega arith

-- a fact of each result of a kind is one of the result
pub if_ok_each : {T E : Type 0} (r : Result T E) (P : T → Type 0) → ((x : T) → r ≡ Ok x → P x) → IfOk r P
if_ok_each (Ok x) P h = h x refl
if_ok_each (Err e) P h = tt

pub if_err_each : {T E : Type 0} (r : Result T E) (P : E → Type 0) → ((x : E) → r ≡ Err x → P x) → IfErr r P
if_err_each (Ok x) P h = tt
if_err_each (Err e) P h = h e refl
