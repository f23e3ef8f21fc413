-- A text splits in one way into letters and what follows them.
use Rattle.std.proofs.Common.{◌≡◌, ℕ, List, [], ◌∷◌, ◌++◌, Bool, true, false, refl, sym, ap, ap₂, ◌∙◌, arith}
use Rattle.std.proofs.lemmas.Bool.{false≢true}
use Rattle.ccsl_words.specs.Word.{BinaryWord}
use Rattle.ccsl_words.specs.Spelling.{digit, digits, period_text, spelling, is_digit}
use Rattle.ccsl_words.specs.Front.{begins_with_letter}

pub is_digit-digit : (x : Bool) → is_digit (digit x) ≡ true
is_digit-digit true = refl
is_digit-digit false = refl

pub same_digit : (x y : Bool) → digit x ≡ digit y → x ≡ y
same_digit true true e = refl
same_digit false false e = refl
same_digit true false e = absurd (omega (arith, e))
same_digit false true e = absurd (omega (arith, e))

-- a digit is no other byte
pub digit_is_not : (x : Bool) (b : ℕ) → is_digit b ≡ false → digit x ≡ b → ⊥
digit_is_not x b other e = false≢true (sym other ∙ ap is_digit (sym e) ∙ is_digit-digit x)

abbrev pub Split : List Bool → List Bool → List ℕ → List ℕ → Type 0
Split p q x y = (p ≡ q) × (x ≡ y)

pub split_unique : (p q : List Bool) (x y : List ℕ) → begins_with_letter x ≡ false → begins_with_letter y ≡ false → digits p ++ x ≡ digits q ++ y
    → Split p q x y
split_unique [] [] x y l r e = (refl, e)
split_unique [] (b ∷ q) [] y l r e = absurd (cc)
split_unique [] (b ∷ q) (c ∷ x) y l r e = absurd (digit_is_not b c l (let h : c ≡ digit b = cc in sym h))
split_unique (a ∷ p) [] x [] l r e = absurd (cc)
split_unique (a ∷ p) [] x (c ∷ y) l r e = absurd (digit_is_not a c r (let h : digit a ≡ c = cc in h))
split_unique (a ∷ p) (b ∷ q) x y l r e =
    let head : digit a ≡ digit b = cc in
    let tail : digits p ++ x ≡ digits q ++ y = cc in
    let s = split_unique p q x y l r tail in
    (ap₂ (λ (c : Bool) (r : List Bool). c ∷ r) (same_digit a b head) s.0, s.1)

pub period_begins : (q : List Bool) → begins_with_letter (period_text q) ≡ false
period_begins [] = refl
period_begins (x ∷ q) = refl

-- the text behind the letters of the prefix is that of the period
pub prefix_split : (w : BinaryWord) (p : List Bool) (x : List ℕ) → begins_with_letter x ≡ false → digits p ++ x ≡ spelling w
    → Split p w.prefix x (period_text w.period)
prefix_split w p x l e = split_unique p w.prefix x (period_text w.period) l (period_begins w.period) e

-- the letters behind the ( of a period, and what follows them
pub inside_split : (v q : List Bool) (x : List ℕ) → begins_with_letter x ≡ false → 40 ∷ (digits q ++ x) ≡ period_text v → Split q v x (41 ∷ [])
inside_split [] q x l e = absurd (cc)
inside_split (a ∷ v) q x l e =
    let tail : digits q ++ x ≡ digits (a ∷ v) ++ 41 ∷ [] = cc in
    split_unique q (a ∷ v) x (41 ∷ []) l refl tail

pub spelling_apart : (v w : BinaryWord) → spelling v ≡ spelling w → v ≡ w
spelling_apart v w e =
    let s = prefix_split w v.prefix (period_text v.period) (period_begins v.period) e in
    ap₂ (λ (p q : List Bool). record { prefix = p; period = q }) s.0 (same_period v.period w.period s.1)
  where
    same_period : (u v : List Bool) → period_text u ≡ period_text v → u ≡ v
    same_period [] [] e = refl
    same_period [] (b ∷ v) e = absurd (cc)
    same_period (a ∷ u) v e = (inside_split v (a ∷ u) (41 ∷ []) refl e).0
