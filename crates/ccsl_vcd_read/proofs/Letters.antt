-- Letters of the values 0 and 1, seen through the bits of a vector.
use Rattle.std.proofs.Common.{◌≡◌, ℕ, suc, ◌+◌, ◌-◌, ◌*◌, ◌<◌, ◌≤◌, List, [], ◌∷◌, ◌++◌, length, take, drop, get_or, map, Bool, true, false, not, cond, nat_eq}
use Rattle.std.proofs.Common.{◌||◌, refl, sym, ap, ◌∙◌, arith, length-drop}
use Rattle.std.specs.List.{list_all}
use Rattle.std.proofs.lemmas.Bool.{and_parts, eqb-true, eq-eqb}
use Rattle.std.proofs.lemmas.List.{take-append-drop, drop-drop}
use Rattle.std.proofs.Math.Seq.{take-add}
use lib.Lanes.{mask_l}
use Rattle.ccsl_vcd.specs.Words.{is_scalar, last_of}
use Rattle.ccsl_vcd_read.specs.Letters.{is_bit, is_other}

none-set : (b : Bool) (m : ℕ) → cond (not b) 1 0 + 2 * m ≡ 0 → (b ≡ true) × (m ≡ 0)
none-set true m e = (refl, omega arith)
none-set false m e = absurd (omega arith)

mask-none : (xs : List ℕ) → mask_l (map is_other xs) ≡ 0 → list_all is_bit xs ≡ true
mask-none [] e = refl
mask-none (x ∷ xs) e =
    let p = none-set (is_bit x) (mask_l (map is_other xs)) e in
    rw (p.0, mask-none xs p.1) refl

mask-all : (xs : List ℕ) → list_all is_bit xs ≡ true → mask_l (map is_other xs) ≡ 0
mask-all [] e = refl
mask-all (x ∷ xs) e =
    let p = and_parts (is_bit x) (list_all is_bit xs) e in
    rw (p.0, mask-all xs p.1) refl

pub all-both : (p : ℕ → Bool) (xs ys : List ℕ) → list_all p xs ≡ true → list_all p ys ≡ true → list_all p (xs ++ ys) ≡ true
all-both p [] ys h k = k
all-both p (x ∷ xs) ys h k =
    let q = and_parts (p x) (list_all p xs) h in
    rw (q.0, all-both p xs ys q.1 k) refl

all-parts : (p : ℕ → Bool) (xs ys : List ℕ) → list_all p (xs ++ ys) ≡ true → (list_all p xs ≡ true) × (list_all p ys ≡ true)
all-parts p [] ys h = (refl, h)
all-parts p (x ∷ xs) ys h =
    let q = and_parts (p x) (list_all p (xs ++ ys)) h in
    let r = all-parts p xs ys q.1 in
    (rw (q.0, r.0) refl, r.1)

all-drop : (p : ℕ → Bool) (i : ℕ) (xs : List ℕ) → list_all p xs ≡ true → list_all p (drop i xs) ≡ true
all-drop p i xs h = (all-parts p (take i xs) (drop i xs) (ap (list_all p) (take-append-drop i xs) ∙ h)).1

all-take : (p : ℕ → Bool) (i : ℕ) (xs : List ℕ) → list_all p xs ≡ true → list_all p (take i xs) ≡ true
all-take p i xs h = (all-parts p (take i xs) (drop i xs) (ap (list_all p) (take-append-drop i xs) ∙ h)).0

not-so : (b : Bool) → (b ≡ true → ⊥) → false ≡ b
not-so true h = absurd (h refl)
not-so false h = refl

-- a bit that is set
pub bits-fail : (d : List ℕ) (i n m : ℕ) → m ≡ mask_l (map is_other (take n (drop i d))) → (m ≡ 0 → ⊥) → false ≡ list_all is_bit d
bits-fail d i n m e some = not-so (list_all is_bit d) (λ h. some (e ∙ mask-all (take n (drop i d)) (all-take is_bit n (drop i d) (all-drop is_bit i d h))))

-- no bit is set in the next bytes
pub bits-next : (d : List ℕ) (i n m : ℕ) → m ≡ mask_l (map is_other (take n (drop i d))) → m ≡ 0 → list_all is_bit (take i d) ≡ true
    → list_all is_bit (take (i + n) d) ≡ true
bits-next d i n m e none h = ap (list_all is_bit) (take-add i n d) ∙ all-both is_bit (take i d) (take n (drop i d)) h (mask-none _ (sym e ∙ none))

last-all : (d : List ℕ) (i n : ℕ) → i ≤ length d → length d ≤ i + n → n ≤ length d → list_all is_bit (take i d) ≡ true
    → list_all is_bit (take n (drop (length d - n) d)) ≡ true → list_all is_bit d ≡ true
last-all d i n l s m h k =
    let j : ℕ = length d - n in
    let whole : take n (drop j d) ≡ drop j d = Rattle.std.proofs.lemmas.List.take_all n (drop j d) (omega (arith, length-drop j d, m)) in
    let rest : list_all is_bit (drop (i - j) (drop j d)) ≡ true = all-drop is_bit (i - j) (drop j d) (ap (list_all is_bit) (sym whole) ∙ k) in
    let sum : j + (i - j) ≡ i = omega (arith, s, l, m) in
    ap (list_all is_bit) (sym (take-append-drop i d))
    ∙ all-both is_bit (take i d) (drop i d) h (ap (list_all is_bit) (sym (drop-drop (i - j) j d ∙ ap (λ x. drop x d) sum)) ∙ rest)

-- whether no bit is set in the last bytes
pub bits-last : (d : List ℕ) (i n m : ℕ) → m ≡ mask_l (map is_other (take n (drop (length d - n) d))) → i ≤ length d → length d ≤ i + n → n ≤ length d
    → list_all is_bit (take i d) ≡ true
    → nat_eq m 0 ≡ list_all is_bit d
bits-last d i n m e l s k h = (elim (nat_eq m 0) as (λ w. nat_eq m 0 ≡ w → w ≡ list_all is_bit d) [
  | true ↦ λ q. sym (last-all d i n l s k h (mask-none _ (sym e ∙ eqb-true m 0 q)))
  | false ↦ λ q. bits-fail d (length d - n) n m e (λ z. let no : true ≡ false = sym (eq-eqb m 0 z) ∙ q in absurd (cc))
]) refl

-- such letters are letters of values of one bit

bit-scalar : (b : ℕ) → is_bit b ≡ true → is_scalar b ≡ true
bit-scalar b h = (elim (nat_eq b 48) as (λ w. nat_eq b 48 ≡ w → (w || nat_eq b 49) ≡ true → is_scalar b ≡ true) [
  | true ↦ λ e g. rw (eqb-true b 48 e) refl
  | false ↦ λ e g. rw (eqb-true b 49 g) refl
]) refl h

pub bits-scalar : (xs : List ℕ) → list_all is_bit xs ≡ true → list_all is_scalar xs ≡ true
bits-scalar [] h = refl
bits-scalar (x ∷ xs) h =
    let p = and_parts (is_bit x) (list_all is_bit xs) h in
    rw (bit-scalar x p.0, bits-scalar xs p.1) refl

-- the last of some bytes stands at the last place
pub last-is : (b : ℕ) (xs : List ℕ) → 0 < length xs → get_or xs (length xs - 1) 0 ≡ last_of b xs
last-is b [] h = absurd (omega arith)
last-is b (x ∷ []) h = refl
last-is b (x ∷ y ∷ ys) h =
    let k : length (x ∷ y ∷ ys) - 1 ≡ suc (length (y ∷ ys) - 1) = omega arith in
    ap (λ i. get_or (x ∷ y ∷ ys) i 0) k ∙ last-is x (y ∷ ys) (omega arith)
