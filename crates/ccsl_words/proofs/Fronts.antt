-- Which fronts can go on to a word, and how many letters they have.
use Rattle.std.proofs.Common.{◌≡◌, ℕ, suc, ◌+◌, ◌<◌, List, [], ◌∷◌, ◌++◌, length, take, drop, Bool, true, false, refl, sym, ap, ap₂, ◌∙◌, cond, append_assoc}
use Rattle.std.proofs.Common.{zero-add, arith}
use Rattle.std.proofs.lemmas.List.{take-append-drop, append-nil}
use Rattle.std.proofs.lemmas.List.Sums.{sum_by-append}
use Rattle.ccsl_words.specs.Word.{BinaryWord, word_len}
use Rattle.ccsl_words.specs.Spelling.{digit, digits, period_text, spelling, is_digit}
use Rattle.ccsl_words.specs.Fault.{CanGoOn, EndsWithoutPeriod, EndsInsidePeriod, letter_count}
use Rattle.ccsl_words.proofs.Splits.{prefix_split, inside_split, is_digit-digit}

-- FRONTS THAT GO ON
pub word_goes_on : (w : BinaryWord) → CanGoOn (spelling w)
word_goes_on w = (w, [], append-nil (spelling w))

pub front_goes_on : (front more : List ℕ) → CanGoOn (front ++ more) → CanGoOn front
front_goes_on front more g = (g.0, more ++ g.1, sym (append_assoc front more g.1) ∙ g.2)

pub take_goes_on : (front : List ℕ) (n : ℕ) → CanGoOn front → CanGoOn (take n front)
take_goes_on front n g = front_goes_on (take n front) (drop n front) (rw take-append-drop g)

pub letters_go_on : (p : List Bool) → CanGoOn (digits p)
letters_go_on p = (record { prefix = p; period = [] }, [], refl)

pub inside_goes_on : (p q : List Bool) → CanGoOn (digits p ++ 40 ∷ digits q)
inside_goes_on p [] = (record { prefix = p; period = true ∷ [] }, 49 ∷ 41 ∷ [], append_assoc (digits p) (40 ∷ []) (49 ∷ 41 ∷ []))
inside_goes_on p (x ∷ q) = (record { prefix = p; period = x ∷ q }, 41 ∷ [], append_assoc (digits p) (40 ∷ digits (x ∷ q)) (41 ∷ []))

pub closed_goes_on : (p q : List Bool) → 0 < length q → CanGoOn (digits p ++ 40 ∷ (digits q ++ 41 ∷ []))
closed_goes_on p [] l = absurd (omega (arith, l))
closed_goes_on p (x ∷ q) l = word_goes_on (record { prefix = p; period = x ∷ q })

-- FRONTS THAT DON'T
-- no word's text has letters and then a byte that is neither a letter nor (
pub stray_in_prefix : (p : List Bool) (b : ℕ) → is_digit b ≡ false → (b ≡ 40 → ⊥) → CanGoOn (digits p ++ b ∷ []) → ⊥
stray_in_prefix p b other not_open g =
    let s = prefix_split g.0 p (b ∷ g.1) other (sym (append_assoc (digits p) (b ∷ []) g.1) ∙ g.2) in
    opens g.0.period s.1
  where
    opens : (v : List Bool) → b ∷ g.1 ≡ period_text v → ⊥
    opens [] e = absurd (cc)
    opens (x ∷ v) e = not_open (cc)

-- what stands behind the letters of a period is its end, and so is the text's
inside_ends : (p q : List Bool) (more : List ℕ) (b : ℕ) (w : BinaryWord) → is_digit b ≡ false → digits p ++ 40 ∷ (digits q ++ b ∷ more) ≡ spelling w →
    (b ∷ more ≡ 41 ∷ []) × (q ≡ w.period) × (40 ∷ (digits q ++ b ∷ more) ≡ period_text w.period)
inside_ends p q more b w other e =
    let s = prefix_split w p (40 ∷ (digits q ++ b ∷ more)) refl e in
    let t = inside_split w.period q (b ∷ more) other s.1 in
    (t.1, t.0, s.1)

pub stray_in_period : (p q : List Bool) (b : ℕ) → is_digit b ≡ false → (b ≡ 41 → ⊥) → CanGoOn (digits p ++ 40 ∷ (digits q ++ b ∷ [])) → ⊥
stray_in_period p q b other not_close g =
    let joined : digits p ++ 40 ∷ (digits q ++ b ∷ g.1) ≡ spelling g.0 =
    ap (λ (r : List ℕ). digits p ++ 40 ∷ r) (sym (append_assoc (digits q) (b ∷ []) g.1)) ∙ sym (append_assoc (digits p) (40 ∷ (digits q ++ b ∷ [])) g.1)
    ∙ g.2 in
    let ends = (inside_ends p q g.1 b g.0 other joined).0 in
    not_close (cc)

pub stray_behind : (p q : List Bool) (b : ℕ) → CanGoOn (digits p ++ 40 ∷ (digits q ++ 41 ∷ b ∷ [])) → ⊥
stray_behind p q b g =
    let joined : digits p ++ 40 ∷ (digits q ++ 41 ∷ b ∷ g.1) ≡ spelling g.0 =
    ap (λ (r : List ℕ). digits p ++ 40 ∷ r) (sym (append_assoc (digits q) (41 ∷ b ∷ []) g.1))
    ∙ sym (append_assoc (digits p) (40 ∷ (digits q ++ 41 ∷ b ∷ [])) g.1) ∙ g.2 in
    let ends = (inside_ends p q (b ∷ g.1) 41 g.0 refl joined).0 in
    cc

-- no word has a period without letters
pub empty_stops : (front : List ℕ) → EndsWithoutPeriod front → CanGoOn front → ⊥
empty_stops front closes g =
    let joined : digits closes.0 ++ 40 ∷ 41 ∷ g.1 ≡ spelling g.0 =
    sym (append_assoc (digits closes.0) (40 ∷ 41 ∷ []) g.1) ∙ ap (λ (r : List ℕ). r ++ g.1) (sym closes.1) ∙ g.2 in
    let s = inside_ends closes.0 [] g.1 41 g.0 refl joined in
    none g.0.period s.1 s.2
  where
    none : (v : List Bool) → [] ≡ v → 40 ∷ 41 ∷ g.1 ≡ period_text v → ⊥
    none [] e f = absurd (cc)
    none (x ∷ v) e f = absurd (cc)

-- a text that ends inside its period is no word's
pub inside_no_word : (text : List ℕ) (w : BinaryWord) → EndsInsidePeriod text → text ≡ spelling w → ⊥
inside_no_word text w inside e =
    let s = prefix_split w inside.0 (40 ∷ digits inside.1) refl (sym inside.2 ∙ e) in
    let r : 40 ∷ (digits inside.1 ++ []) ≡ period_text w.period = ap (λ (r : List ℕ). 40 ∷ r) (append-nil (digits inside.1)) ∙ s.1 in
    let t = inside_split w.period inside.1 [] refl r in
    cc (t.1)

-- COUNTS of letters
pub letter_count-append : (front more : List ℕ) → letter_count (front ++ more) ≡ letter_count front + letter_count more
letter_count-append front more = sum_by-append (λ b. cond (is_digit b) 1 0) front more

pub letter_count-cons : (b : ℕ) (more : List ℕ) → letter_count (b ∷ more) ≡ cond (is_digit b) 1 0 + letter_count more
letter_count-cons b more = letter_count-append (b ∷ []) more ∙ ap (λ n. n + letter_count more) (zero-add (cond (is_digit b) 1 0))

pub letter_count-digits : (p : List Bool) → letter_count (digits p) ≡ length p
letter_count-digits [] = refl
letter_count-digits (x ∷ p) =
    letter_count-cons (digit x) (digits p) ∙ ap₂ (λ (b : Bool) (n : ℕ). cond b 1 0 + n) (is_digit-digit x) (letter_count-digits p)
    ∙ (let s : 1 + length p ≡ suc (length p) = omega arith in s)

pub letter_count-inside : (p q : List Bool) → letter_count (digits p ++ 40 ∷ digits q) ≡ length p + length q
letter_count-inside p q =
    omega (arith, letter_count-append (digits p) (40 ∷ digits q), letter_count-cons 40 (digits q), letter_count-digits p, letter_count-digits q)

pub letter_count-closed : (p q : List Bool) → letter_count (digits p ++ 40 ∷ (digits q ++ 41 ∷ [])) ≡ length p + length q
letter_count-closed p q =
    omega (
      arith,
      letter_count-append (digits p) (40 ∷ (digits q ++ 41 ∷ [])),
      letter_count-cons 40 (digits q ++ 41 ∷ []),
      letter_count-append (digits q) (41 ∷ []),
      letter_count-digits p,
      letter_count-digits q,
    )

pub letter_count-spelling : (w : BinaryWord) → letter_count (spelling w) ≡ word_len w
letter_count-spelling w = letter_count-append (digits w.prefix) (period_text w.period) ∙ ap₂ (λ m n. m + n) (letter_count-digits w.prefix) (of_period w.period)
  where
    of_period : (v : List Bool) → letter_count (period_text v) ≡ length v
    of_period [] = refl
    of_period (x ∷ v) = letter_count-closed [] (x ∷ v) ∙ zero-add (length (x ∷ v))
