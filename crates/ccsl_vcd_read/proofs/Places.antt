-- Codes in a table.
use Rattle.std.proofs.Common.{◌≡◌, ℕ, zero, suc, ◌+◌, ◌<◌, ◌≤◌, List, [], ◌∷◌, ◌++◌, length, take, Bool, true, false, Some, cond, get_or, replicate, slice_set}
use Rattle.std.proofs.Common.{refl, sym, ap, ◌∙◌, arith, ⊎_elim}
use Rattle.std.proofs.lemmas.List.{get_or-set_same, get_or-set_other, take_all}
use Rattle.std.proofs.lemmas.Bool.{cases_eq}
use Rattle.ccsl_bind.specs.Codes.{number_of}
use Rattle.ccsl_vcd_lex.specs.ShortCodes.{SHORT, place_of}
use Rattle.ccsl_vcd_lex.proofs.ShortCodes.{same-code}
use Rattle.ccsl_vcd_read.specs.Places.{AreFound}

no-number : (n : ℕ) → 0 ≡ suc n → ⊥
no-number n e = cc

-- the empty table
pub zeros : (k i d : ℕ) → d ≡ 0 → get_or (replicate k d) i d ≡ d
zeros zero i d e = refl
zeros (suc k) zero d e = refl
zeros (suc k) (suc i) d e = zeros k i d e

pub none-found : (table : List ℕ) (codes : List (List ℕ)) → ((i : ℕ) → get_or table i 0 ≡ 0) → AreFound table codes
none-found table codes h text n e = absurd (no-number n (sym (h (place_of text)) ∙ e))

-- a longer table
longer : (xs : List ℕ) (k i : ℕ) → get_or (xs ++ replicate k 0) i 0 ≡ get_or xs i 0
longer [] k i = zeros k i 0 refl
longer (x ∷ xs) k zero = refl
longer (x ∷ xs) k (suc i) = longer xs k i

pub grown : (ok : Bool) (old new : List ℕ) (n k i : ℕ) → length old ≤ n → new ≡ cond ok (take n old ++ replicate k 0) old → get_or new i 0 ≡ get_or old i 0
grown true old new n k i l e = ap (λ ys. get_or ys i 0) (e ∙ ap (λ ys. ys ++ replicate k 0) (take_all n old l)) ∙ longer old k i
grown false old new n k i l e = ap (λ ys. get_or ys i 0) e

pub still-found : (old new : List ℕ) (codes : List (List ℕ)) → AreFound old codes → ((i : ℕ) → get_or new i 0 ≡ get_or old i 0) → AreFound new codes
still-found old new codes h same text n e = h text n (sym (same (place_of text)) ∙ e)

-- one more code was found
pub one-found : (table : List ℕ) (codes : List (List ℕ)) (code : List ℕ) (p m : ℕ) → AreFound table codes → p ≡ place_of code → p < length table → p < SHORT
    → number_of code codes ≡ Some m → AreFound (slice_set table p (m + 1)) codes
one-found table codes code p m h e l s f text n g =
    ⊎_elim
    (λ same.
    let k : m + 1 ≡ suc n = sym (get_or-set_same table p (m + 1) 0 l) ∙ ap (λ i. get_or (slice_set table p (m + 1)) i 0) (sym same) ∙ g in
    let v : m ≡ n = omega (arith, k) in
    let t : text ≡ code = same-code text code (omega (arith, same, s)) (same ∙ e) in
    ap (λ xs. number_of xs codes) t ∙ f ∙ ap (λ i. Some i) v)
    (λ apart. h text n (sym (get_or-set_other table p (place_of text) (m + 1) 0 apart) ∙ g))
    (cases_eq (place_of text) p)
