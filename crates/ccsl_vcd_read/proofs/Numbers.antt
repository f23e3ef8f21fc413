-- Reading a number from the left.
use Rattle.std.proofs.Common.{◌≡◌, ℕ, ◌+◌, ◌-◌, ◌*◌, ◌/◌, ◌≤◌, ◌<◌, List, [], ◌∷◌, length, drop, get_or, Bool, true, false, Option, Some, None, nat_le, ◌&&◌}
use Rattle.std.proofs.Common.{cond, refl, sym, ap, ◌∙◌, arith, drop-cons, add-one}
use Rattle.std.specs.List.{list_all}
use Rattle.std.proofs.Math.Bool.{and-false}
use Rattle.std.proofs.lemmas.List.{drop_all}
use Rattle.std.proofs.lemmas.Grind.{common_steps}
use Rattle.ccsl_base.specs.Letters.{is_digit}
use Rattle.ccsl_base.specs.Decimal.{value_behind}
use Rattle.ccsl_vcd.specs.Words.{number}

-- what is read of the digits that are left, behind a value
abbrev pub value_of : ℕ → ℕ → List ℕ → Option ℕ
value_of limit n ds = cond (list_all is_digit ds && nat_le (value_behind n ds) limit) (Some (value_behind n ds)) None

pub number-value : (limit : ℕ) (text : List ℕ) → 0 < length text → number limit text ≡ value_of limit 0 text
unfolding number
number-value limit [] h = absurd (omega arith)
number-value limit (d ∷ ds) h = refl

pub number-none : (limit : ℕ) (text : List ℕ) → length text ≡ 0 → None ≡ number limit text
unfolding number
number-none limit [] h = refl
number-none limit (d ∷ ds) h = absurd (omega arith)

digits-grow : (n : ℕ) (ds : List ℕ) → n ≤ value_behind n ds
digits-grow n [] = omega arith
digits-grow n (d ∷ ds) = let ih : n * 10 + (d - 48) ≤ value_behind (n * 10 + (d - 48)) ds = digits-grow (n * 10 + (d - 48)) ds in omega arith

-- a byte that is no digit
pub no-digit : (limit n b : ℕ) (ds : List ℕ) → is_digit b ≡ false → value_of limit n (b ∷ ds) ≡ None
no-digit limit n b ds e = rw e refl

-- a value past the limit
pub too-large : (limit n b : ℕ) (ds : List ℕ) → limit < 10 * n + (b - 48) → value_of limit n (b ∷ ds) ≡ None
too-large limit n b ds h =
    let g : n * 10 + (b - 48) ≤ value_behind (n * 10 + (b - 48)) ds = digits-grow (n * 10 + (b - 48)) ds in
    let f : nat_le (value_behind (n * 10 + (b - 48)) ds) limit ≡ false = grind (arith, common_steps) in
    rw f (ap (λ (w : Bool). cond w (Some (value_behind (n * 10 + (b - 48)) ds)) None) (and-false (list_all is_digit (b ∷ ds))))

-- one more digit
pub one-digit : (limit n b : ℕ) (ds : List ℕ) → is_digit b ≡ true → value_of limit n (b ∷ ds) ≡ value_of limit (10 * n + (b - 48)) ds
one-digit limit n b ds e = let same : n * 10 + (b - 48) ≡ 10 * n + (b - 48) = omega arith in rw e (ap (λ k. value_of limit k ds) same)

pub at-end : (limit n : ℕ) → n ≤ limit → value_of limit n [] ≡ Some n
at-end limit n h =
    let f : nat_le n limit ≡ true = grind (arith, common_steps) in
    rw f refl

pub digit-is : (b : ℕ) → 48 ≤ b → b ≤ 57 → is_digit b ≡ true
digit-is b h k = grind (arith, common_steps)

pub digit-low : (b : ℕ) → b < 48 → is_digit b ≡ false
digit-low b h = grind (arith, common_steps)

pub digit-high : (b : ℕ) → 57 < b → is_digit b ≡ false
digit-high b h = grind (arith, common_steps)

-- A loop over the digits: one more is taken.
front : (i : ℕ) (text : List ℕ) → i < length text → drop i text ≡ get_or text i 0 ∷ drop (i + 1) text
front i text h = drop-cons text i 0 h ∙ ap (λ (k : ℕ). get_or text i 0 ∷ drop k text) (sym (add-one i))

pub ends-bad : (limit : ℕ) (text : List ℕ) (i n : ℕ) → i < length text → value_of limit n (drop i text) ≡ value_of limit 0 text
    → is_digit (get_or text i 0) ≡ false
    → None ≡ number limit text
ends-bad limit text i n lt inv d =
    sym (number-value limit text (omega arith) ∙ sym inv ∙ ap (value_of limit n) (front i text lt) ∙ no-digit limit n (get_or text i 0) (drop (i + 1) text) d)

pub ends-large : (limit : ℕ) (text : List ℕ) (i n : ℕ) → i < length text → value_of limit n (drop i text) ≡ value_of limit 0 text
    → get_or text i 0 ≤ 57 → 48 ≤ get_or text i 0 → (limit - (get_or text i 0 - 48)) / 10 < n
    → None ≡ number limit text
ends-large limit text i n lt inv high low big =
    let h : limit < 10 * n + (get_or text i 0 - 48) = omega arith in
    sym (number-value limit text (omega arith) ∙ sym inv ∙ ap (value_of limit n) (front i text lt) ∙ too-large limit n (get_or text i 0) (drop (i + 1) text) h)

pub goes-on : (limit : ℕ) (text : List ℕ) (i n : ℕ) → i < length text → value_of limit n (drop i text) ≡ value_of limit 0 text
    → get_or text i 0 ≤ 57 → 48 ≤ get_or text i 0
    → value_of limit (10 * n + (get_or text i 0 - 48)) (drop (i + 1) text) ≡ value_of limit 0 text
goes-on limit text i n lt inv high low =
    sym (one-digit limit n (get_or text i 0) (drop (i + 1) text) (digit-is (get_or text i 0) low high)) ∙ ap (value_of limit n) (sym (front i text lt)) ∙ inv

pub ends-well : (limit : ℕ) (text : List ℕ) (i n : ℕ) → 0 < length text → length text ≤ i → n ≤ limit → value_of limit n (drop i text) ≡ value_of limit 0 text
    → Some n ≡ number limit text
ends-well limit text i n some le fits inv =
    sym (number-value limit text some ∙ sym inv ∙ ap (value_of limit n) (drop_all i text le) ∙ at-end limit n fits)
