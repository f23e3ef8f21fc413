-- Short codes at the front of some bytes, and in a table.
use Rattle.std.proofs.Common.{◌≡◌, ℕ, zero, suc, ◌+◌, ◌-◌, ◌*◌, ◌<◌, ◌≤◌, List, [], ◌∷◌, length, take, get_or, Bool, true, false, not, ◌&&◌, nat_le, cond, refl}
use Rattle.std.proofs.Common.{sym, ap, subst, arith}
use Rattle.std.specs.List.{list_all, prefix_len}
use Rattle.std.proofs.lemmas.Bool.{and_parts, leb-true}
use Rattle.std.proofs.lemmas.Grind.{common_steps}
use Rattle.ccsl_base.proofs.Sets.{by_case}
use Rattle.ccsl_vcd_lex.specs.Tokens.{is_white}
use Rattle.ccsl_vcd_lex.specs.Lexing.{is_dark}
use Rattle.ccsl_base.specs.Name.{is_visible}
use Rattle.ccsl_vcd_lex.specs.ShortCodes.{SHORT, place_of, IsCode}

-- a run of bytes at the front
pub run-is : (q : ℕ → Bool) (n : ℕ) (xs : List ℕ) → list_all q (take n xs) ≡ true → n < length xs → q (get_or xs n 0) ≡ false → n ≡ prefix_len q xs
run-is q n [] h l e = absurd (omega arith)
run-is q zero (x ∷ xs) h l e = rw e refl
run-is q (suc n) (x ∷ xs) h l e =
    let p = and_parts (q x) (list_all q (take n xs)) h in
    let ih : n ≡ prefix_len q xs = run-is q n xs p.1 (omega arith) e in
    rw (p.0) (let k : suc n ≡ 1 + prefix_len q xs = omega (arith, ih) in k)

visible-dark : (a : ℕ) → is_visible a ≡ true → is_dark a ≡ true
unfolding is_white
visible-dark a h =
    let p = and_parts (nat_le 33 a) (nat_le a 126) h in
    let low : 33 ≤ a = leb-true 33 a p.0 in
    let high : a ≤ 126 = leb-true a 126 p.1 in
    grind (arith, common_steps, low, high)

pub code-one : (bytes : List ℕ) (place : ℕ) → 2 ≤ length bytes → is_visible (get_or bytes 0 0) ≡ true → is_white (get_or bytes 1 0) ≡ true
    → place ≡ place_of (get_or bytes 0 0 ∷ []) → place < 94 → IsCode 1 place bytes
code-one [] place l h w e m = absurd (omega (arith, l))
code-one (a ∷ []) place l h w e m = absurd (omega (arith, l))
code-one (a ∷ b ∷ more) place l h w e m = record {
  some = omega arith;
  most = omega arith;
  run = run-is is_dark 1 (a ∷ b ∷ more) (rw (visible-dark a h) refl) (omega arith) (ap not w);
  inside = omega arith;
  at = e;
  short = omega (arith, m);
}

pub code-two : (bytes : List ℕ) (place : ℕ) → 3 ≤ length bytes → is_visible (get_or bytes 0 0) ≡ true → is_visible (get_or bytes 1 0) ≡ true
    → is_white (get_or bytes 2 0) ≡ true
    → place ≡ place_of (get_or bytes 0 0 ∷ get_or bytes 1 0 ∷ []) → place < 8930 → IsCode 2 place bytes
code-two [] place l h g w e m = absurd (omega (arith, l))
code-two (a ∷ []) place l h g w e m = absurd (omega (arith, l))
code-two (a ∷ b ∷ []) place l h g w e m = absurd (omega (arith, l))
code-two (a ∷ b ∷ c ∷ more) place l h g w e m = record {
  some = omega arith;
  most = omega arith;
  run = run-is is_dark 2 (a ∷ b ∷ c ∷ more) (rw (visible-dark a h, visible-dark b g) refl) (omega arith) (ap not w);
  inside = omega arith;
  at = e;
  short = omega (arith, m);
}

pub code-three : (bytes : List ℕ) (place : ℕ) → 4 ≤ length bytes → is_visible (get_or bytes 0 0) ≡ true → is_visible (get_or bytes 1 0) ≡ true
    → is_visible (get_or bytes 2 0) ≡ true
    → is_white (get_or bytes 3 0) ≡ true → place ≡ place_of (get_or bytes 0 0 ∷ get_or bytes 1 0 ∷ get_or bytes 2 0 ∷ []) → place < SHORT → IsCode 3 place bytes
code-three [] place l h g k w e m = absurd (omega (arith, l))
code-three (a ∷ []) place l h g k w e m = absurd (omega (arith, l))
code-three (a ∷ b ∷ []) place l h g k w e m = absurd (omega (arith, l))
code-three (a ∷ b ∷ c ∷ []) place l h g k w e m = absurd (omega (arith, l))
code-three (a ∷ b ∷ c ∷ d ∷ more) place l h g k w e m = record {
  some = omega arith;
  most = omega arith;
  run = run-is is_dark 3 (a ∷ b ∷ c ∷ d ∷ more) (rw (visible-dark a h, visible-dark b g, visible-dark c k) refl) (omega arith) (ap not w);
  inside = omega arith;
  at = e;
  short = m;
}

-- the digits of a code
abbrev Digit : ℕ → Type 0
Digit a = (33 ≤ a) × (a ≤ 126)

digit : (a : ℕ) → is_visible a ≡ true → Digit a
digit a h = let p = and_parts (nat_le 33 a) (nat_le a 126) h in (leb-true 33 a p.0, leb-true a 126 p.1)

abbrev Shown : ℕ → List ℕ → Type 0
Shown p [] = ⊥
Shown p (a ∷ []) = Digit a × (p ≡ a - 33)
Shown p (a ∷ b ∷ []) = Digit a × Digit b × (p ≡ a - 33 + 94 * (b - 32))
Shown p (a ∷ b ∷ c ∷ []) = Digit a × Digit b × Digit c × (p ≡ a - 33 + 94 * (b - 32) + 8836 * (c - 32))
Shown p (a ∷ b ∷ c ∷ d ∷ more) = ⊥

-- what stands below the length has digits
shown : (text : List ℕ) → place_of text < SHORT → Shown (place_of text) text
shown [] l = absurd (omega arith)
shown (a ∷ []) l = by_case (is_visible a) _ (λ e. (digit a e, ap (λ w. cond w (a - 33) SHORT) e))
    (λ e. absurd (let k : SHORT < SHORT = rw e at l in omega arith))
shown (a ∷ b ∷ []) l =
    by_case (is_visible a && is_visible b) _
    (λ e. let p = and_parts (is_visible a) (is_visible b) e in (digit a p.0, digit b p.1, ap (λ w. cond w (a - 33 + 94 * (b - 32)) SHORT) e))
    (λ e. absurd (let k : SHORT < SHORT = rw e at l in omega arith))
shown (a ∷ b ∷ c ∷ []) l =
    by_case (is_visible a && (is_visible b && is_visible c)) _
    (λ e.
    let p = and_parts (is_visible a) (is_visible b && is_visible c) e in
    let q = and_parts (is_visible b) (is_visible c) p.1 in
    (digit a p.0, digit b q.0, digit c q.1, ap (λ w. cond w (a - 33 + 94 * (b - 32) + 8836 * (c - 32)) SHORT) e))
    (λ e. absurd (let k : SHORT < SHORT = rw e at l in omega arith))
shown (a ∷ b ∷ c ∷ d ∷ more) l = absurd (omega arith)

-- no two codes have one place
same-text : (p : ℕ) (s t : List ℕ) → Shown p s → Shown p t → s ≡ t
same-text p [] t h g = absurd h
same-text p (a ∷ b ∷ c ∷ d ∷ more) t h g = absurd h
same-text p (a ∷ []) [] h g = absurd g
same-text p (a ∷ []) (x ∷ []) h g = let e : a ≡ x = omega (arith, h.0.0, h.0.1, h.1, g.0.0, g.0.1, g.1) in ap (λ n. n ∷ []) e
same-text p (a ∷ []) (x ∷ y ∷ []) h g = absurd (omega (arith, h.0.0, h.0.1, h.1, g.0.0, g.0.1, g.1.0, g.1.1, g.2))
same-text p (a ∷ []) (x ∷ y ∷ z ∷ []) h g = absurd (omega (arith, h.0.0, h.0.1, h.1, g.0.0, g.0.1, g.1.0, g.1.1, g.2.0, g.2.1, g.3))
same-text p (a ∷ []) (x ∷ y ∷ z ∷ w ∷ more) h g = absurd g
same-text p (a ∷ b ∷ []) [] h g = absurd g
same-text p (a ∷ b ∷ []) (x ∷ []) h g = absurd (omega (arith, h.0.0, h.0.1, h.1.0, h.1.1, h.2, g.0.0, g.0.1, g.1))
same-text p (a ∷ b ∷ []) (x ∷ y ∷ []) h g =
    let e : b ≡ y = omega (arith, h.0.0, h.0.1, h.1.0, h.1.1, h.2, g.0.0, g.0.1, g.1.0, g.1.1, g.2) in
    let f : a ≡ x = omega (arith, e, h.0.0, h.2, g.0.0, g.2) in
    rw (e, f) refl
same-text p (a ∷ b ∷ []) (x ∷ y ∷ z ∷ []) h g = absurd (omega (arith, h.0.0, h.0.1, h.1.0, h.1.1, h.2, g.0.0, g.0.1, g.1.0, g.1.1, g.2.0, g.2.1, g.3))
same-text p (a ∷ b ∷ []) (x ∷ y ∷ z ∷ w ∷ more) h g = absurd g
same-text p (a ∷ b ∷ c ∷ []) [] h g = absurd g
same-text p (a ∷ b ∷ c ∷ []) (x ∷ []) h g = absurd (omega (arith, h.0.0, h.0.1, h.1.0, h.1.1, h.2.0, h.2.1, h.3, g.0.0, g.0.1, g.1))
same-text p (a ∷ b ∷ c ∷ []) (x ∷ y ∷ []) h g = absurd (omega (arith, h.0.0, h.0.1, h.1.0, h.1.1, h.2.0, h.2.1, h.3, g.0.0, g.0.1, g.1.0, g.1.1, g.2))
same-text p (a ∷ b ∷ c ∷ []) (x ∷ y ∷ z ∷ []) h g =
    let e : c ≡ z = omega (arith, h.0.0, h.0.1, h.1.0, h.1.1, h.2.0, h.2.1, h.3, g.0.0, g.0.1, g.1.0, g.1.1, g.2.0, g.2.1, g.3) in
    let f : b ≡ y = omega (arith, e, h.0.0, h.0.1, h.1.0, h.1.1, h.2.0, h.3, g.0.0, g.0.1, g.1.0, g.1.1, g.2.0, g.3) in
    let i : a ≡ x = omega (arith, e, f, h.0.0, h.1.0, h.2.0, h.3, g.0.0, g.1.0, g.2.0, g.3) in
    rw (e, f, i) refl
same-text p (a ∷ b ∷ c ∷ []) (x ∷ y ∷ z ∷ w ∷ more) h g = absurd g

pub same-code : (s t : List ℕ) → place_of s < SHORT → place_of s ≡ place_of t → s ≡ t
same-code s t low same =
    let low' : place_of t < SHORT = omega (arith, low, same) in
    same-text (place_of s) s t (shown s low) (subst (λ q. Shown q t) (sym same) (shown t low'))
