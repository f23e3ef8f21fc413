-- Words that are spelled from a list of their first letters.
use Rattle.std.proofs.Common.{◌≡◌, ℕ, zero, suc, ◌+◌, ◌-◌, ◌*◌, ◌/◌, ◌%◌, ◌<◌, ◌≤◌, List, [], ◌∷◌, map, length, take, drop, get_or, Bool, false, cond, refl}
use Rattle.std.proofs.Common.{sym, ap, ap₂, ◌∙◌, subst, arith, ⊎_elim, lt-ltb}
use Rattle.std.specs.Prelude.{Result, Ok, Err, IfOk}
use Rattle.std.specs.List.{range_with_len}
use Rattle.std.proofs.lemmas.Bool.{cases_lt}
use Rattle.std.proofs.lemmas.List.{ext_get_or, length-take, length-drop, get_or-take, get_or-drop}
use Rattle.std.proofs.lemmas.List.FromFn.{length-map-range_with_len, get_or-map-range_with_len, take-map-range_with_len, fill_by_all}
use Rattle.std.proofs.Math.Nat.{mod-eq_of_lt}
use Rattle.ccsl_words.specs.Word.{BinaryWord, letter, is_finite, word_len}
use Rattle.ccsl_base.specs.Empty.{is_empty}
use Rattle.ccsl_words.proofs.Letters.{past_infinite}

-- the first values of a function
abbrev pub front : (ℕ → Bool) → ℕ → List Bool
front f n = map f (range_with_len 0 n)

front_at : (f : ℕ → Bool) (n i : ℕ) → i < n → get_or (front f n) i false ≡ f i
front_at f n i l = get_or-map-range_with_len f 0 n i i false l (omega arith)

pub front_len : (f : ℕ → Bool) (n : ℕ) → length (front f n) ≡ n
front_len f n = length-map-range_with_len f 0 n

pub in_prefix : (w : BinaryWord) (k : ℕ) → k < length w.prefix → letter w k ≡ get_or w.prefix k false
in_prefix w k l = ap (λ c. cond c (get_or w.prefix k false) (cond (is_finite w) false (get_or w.period ((k - length w.prefix) % length w.period) false)))
    (lt-ltb k (length w.prefix) l)

-- a word by its letters
nonempty : (xs : List Bool) → 0 < length xs → is_empty xs ≡ false
nonempty [] l = let z : ⊥ = omega arith in absurd z
nonempty (x ∷ xs) l = refl

in_period : (w : BinaryWord) (i : ℕ) → i < length w.period → letter w (length w.prefix + i) ≡ get_or w.period i false
in_period w i l =
    past_infinite w (length w.prefix + i) (nonempty w.period (omega arith)) (omega arith)
    ∙ ap (λ k. get_or w.period (k % length w.period) false) (let s : length w.prefix + i - length w.prefix ≡ i = omega arith in s)
    ∙ ap (λ k. get_or w.period k false) (mod-eq_of_lt l)

pub prefix_read : (w : BinaryWord) → take (length w.prefix) (front (letter w) (word_len w)) ≡ w.prefix
prefix_read w =
    take-map-range_with_len (letter w) 0 (word_len w) (length w.prefix) (omega arith)
    ∙ sym (fill_by_all (letter w) w.prefix (length w.prefix) false refl (λ k l. sym (in_prefix w k l)))

pub period_read : (w : BinaryWord) → drop (length w.prefix) (front (letter w) (word_len w)) ≡ w.period
period_read w =
    let xs = front (letter w) (word_len w) in
    let long : length (drop (length w.prefix) xs) ≡ length w.period =
    length-drop (length w.prefix) xs ∙ (let n = front_len (letter w) (word_len w) in omega arith) in
    ext_get_or false (drop (length w.prefix) xs) w.period long
    (λ i l. get_or-drop (length w.prefix) xs i false ∙ front_at (letter w) (word_len w) (length w.prefix + i) (omega (arith, l, long))
    ∙ in_period w i (omega (arith, l, long)))

-- p values of a function as a prefix, and q as a period
abbrev pub spelled : (ℕ → Bool) → ℕ → ℕ → BinaryWord
spelled f p q = record { prefix = take p (front f (p + q)); period = drop p (front f (p + q)) }

-- A FUNCTION THAT REPEATS, spelled with its first values
module _ (f : ℕ → Bool) (p q : ℕ) (some : 0 < q) (repeats : (k : ℕ) → p ≤ k → f (k + q) ≡ f k) where
  pub prefix-spelled : length (spelled f p q).prefix ≡ p
  prefix-spelled = length-take p (front f (p + q)) ∙ (let n = front_len f (p + q) in omega arith)

  pub period-spelled : length (spelled f p q).period ≡ q
  period-spelled = length-drop p (front f (p + q)) ∙ (let n = front_len f (p + q) in omega arith)

  pub infinite-spelled : is_finite (spelled f p q) ≡ false
  infinite-spelled = nonempty (spelled f p q).period (omega (arith, period-spelled))

  turns : (n k : ℕ) → p ≤ k → f (k + n * q) ≡ f k
  turns zero k l = ap f (let s : k + zero * q ≡ k = omega arith in s)
  turns (suc n) k l = ap f (let s : k + suc n * q ≡ k + n * q + q = omega arith in s) ∙ repeats (k + n * q) (omega arith) ∙ turns n k l

  pub letter-spelled : (k : ℕ) → letter (spelled f p q) k ≡ f k
  letter-spelled k =
      ⊎_elim
      (λ (l : k < p).
      in_prefix (spelled f p q) k (omega (arith, prefix-spelled))
      ∙ get_or-take p (front f (p + q)) k false l
      ∙ front_at f (p + q) k (omega arith))
      (λ (l : p ≤ k).
      let r = (k - p) % q in
      let n = (k - p) / q in
      let whole : k ≡ p + r + n * q = omega arith in
      past_infinite (spelled f p q) k infinite-spelled (omega (arith, prefix-spelled))
      ∙ ap₂ (λ i n. get_or (spelled f p q).period ((k - i) % n) false) prefix-spelled period-spelled
      ∙ get_or-drop p (front f (p + q)) r false
      ∙ front_at f (p + q) (p + r) (omega arith)
      ∙ sym (turns n (p + r) (omega arith))
      ∙ ap f (sym whole))
      (cases_lt k p)

-- what holds of a value holds of a result that is it
pub if_ok-is : {A E : Type 0} (r : Result A E) (a : A) (P : A → Type 0) → IfOk r (λ v. v ≡ a) → P a → IfOk r P
if_ok-is (Ok v) a P e p = subst P (sym e) p
if_ok-is (Err e) a P h p = h
