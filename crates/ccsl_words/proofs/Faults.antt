-- The fault of a text, from how the text splits.
use Rattle.std.proofs.Common.{◌≡◌, ℕ, suc, ◌+◌, ◌<◌, ◌≤◌, List, [], ◌∷◌, ◌++◌, length, take, Bool, true, false, refl, sym, ap, ap₂, ◌∙◌, subst, inl, inr, cond}
use Rattle.std.proofs.Common.{append_assoc, length-append, arith}
use Rattle.std.proofs.lemmas.List.{take_at, append-nil, length-map, length_push, map_push}
use Rattle.ccsl_words.specs.declared.fault.WordFault.TheVariants as fault
use Rattle.ccsl_words.specs.Spelling.{digit, digits, is_digit}
use Rattle.ccsl_words.specs.Reads.{Reads}
use Rattle.ccsl_words.specs.Fault.{CanGoOn, EndsWithoutPeriod, letter_count, IsReadTo, PassesLimitAt, IsFault}
use Rattle.ccsl_words.proofs.Splits.{split_unique, is_digit-digit, digit_is_not}
use Rattle.ccsl_words.proofs.Fronts.{front_goes_on, letter_count-append, letters_go_on, inside_goes_on, closed_goes_on, stray_in_prefix, stray_in_period}
use Rattle.ccsl_words.proofs.Fronts.{stray_behind, letter_count-digits, letter_count-inside, letter_count-closed}

length-digits : (p : List Bool) → length (digits p) ≡ length p
length-digits p = length-map p digit

length-inside : (p q : List Bool) → length (digits p ++ 40 ∷ digits q) ≡ length p + 1 + length q
length-inside p q = omega (arith, length-append (digits p) (40 ∷ digits q), length-digits p, length-digits q)

length-closed : (p q : List Bool) → length (digits p ++ 40 ∷ (digits q ++ 41 ∷ [])) ≡ length p + 1 + length q + 1
length-closed p q =
    omega (arith, length-append (digits p) (40 ∷ (digits q ++ 41 ∷ [])), length-append (digits q) (41 ∷ []), length-digits p, length-digits q)

-- THE FRONT that is read, and the byte behind it
module _ (text front behind : List ℕ) (place : ℕ) (splits : text ≡ front ++ behind) (long : length front ≡ place) where
  front_taken : take place text ≡ front
  front_taken = ap (take place) splits ∙ take_at front behind place long

  read_front : CanGoOn front → letter_count front ≤ 4096 → IsReadTo text place
  read_front goes few = record {
    within = (let whole : length text ≡ length front + length behind = ap length splits ∙ length-append front behind in omega (arith, whole, long));
    goes_on = subst CanGoOn (sym front_taken) goes;
    few_letters = (let same : letter_count (take place text) ≡ letter_count front = ap letter_count front_taken in omega (arith, same, few));
  }

next_taken : (text front behind : List ℕ) (b place : ℕ) → text ≡ front ++ b ∷ behind → length front ≡ place → take (place + 1) text ≡ front ++ b ∷ []
next_taken text front behind b place splits long =
    ap (take (place + 1)) (splits ∙ sym (append_assoc front (b ∷ []) behind))
    ∙ take_at (front ++ b ∷ []) behind (place + 1) (length-append front (b ∷ []) ∙ ap (λ n. n + 1) long)

next_there : (text front behind : List ℕ) (b place : ℕ) → text ≡ front ++ b ∷ behind → length front ≡ place → place < length text
next_there text front behind b place splits long =
    let whole : length text ≡ length front + length (b ∷ behind) = ap length splits ∙ length-append front (b ∷ behind) in
    omega (arith, whole, long)

-- FAULTS BEHIND THE PREFIX
-- a byte behind the letters of the prefix that opens no period
pub stray_after_letters : (text : List ℕ) (p : List Bool) (b : ℕ) (behind : List ℕ) → text ≡ digits p ++ b ∷ behind → length p ≤ 4096 → is_digit b ≡ false
    → (b ≡ 40 → ⊥) →
    IsFault text (fault.BadLetter (length p))
stray_after_letters text p b behind splits few other not_open =
    inl
    (record {
      read = read_front text (digits p) (b ∷ behind) (length p) splits (length-digits p) (letters_go_on p) (omega (arith, letter_count-digits p, few));
      there = next_there text (digits p) behind b (length p) splits (length-digits p);
      stops = λ g. stray_in_prefix p b other not_open (subst CanGoOn taken g);
      not_closing = λ e. no_opening e.0 (sym taken ∙ e.1);
    })
  where
    taken : take (length p + 1) text ≡ digits p ++ b ∷ []
    taken = next_taken text (digits p) behind b (length p) splits (length-digits p)

    no_opening : (q : List Bool) → digits p ++ b ∷ [] ≡ digits q ++ 40 ∷ 41 ∷ [] → ⊥
    no_opening q e = not_open (let s : b ∷ [] ≡ 40 ∷ 41 ∷ [] = (split_unique p q (b ∷ []) (40 ∷ 41 ∷ []) other refl e).1 in cc)

-- LETTER NUMBER 4,097
passes : (text front behind : List ℕ) (b : ℕ) → text ≡ front ++ b ∷ behind → CanGoOn (front ++ b ∷ []) → letter_count front ≡ 4096 → is_digit b ≡ true
    → PassesLimitAt text (length front)
passes text front behind b splits goes full letter =
    let taken = next_taken text front behind b (length front) splits refl in
    record {
      read = read_front text front (b ∷ behind) (length front) splits refl (front_goes_on front (b ∷ []) goes) (omega (arith, full));
      goes_on = subst CanGoOn (sym taken) goes;
      letters =
          ap letter_count taken
          ∙ letter_count-append front (b ∷ [])
          ∙ ap₂ (λ (n : ℕ) (c : Bool). n + (0 + cond c 1 0)) full letter;
    }

-- a list that isn't empty has a last letter
last_letter : (p : List Bool) → 0 < length p → (q : List Bool) × (x : Bool) × (p ≡ q ++ x ∷ [])
last_letter [] l = absurd (omega (arith, l))
last_letter (a ∷ []) l = ([], a, refl)
last_letter (a ∷ b ∷ p) l =
    let more = last_letter (b ∷ p) (let s : 0 < suc (length p) = omega arith in s) in
    (a ∷ more.0, more.1, ap (λ (r : List Bool). a ∷ r) more.2)

digits_push : (p q : List Bool) (x : Bool) → p ≡ q ++ x ∷ [] → digits p ≡ digits q ++ digit x ∷ []
digits_push p q x e = ap digits e ∙ map_push digit q x

pub limit_in_prefix : (text behind : List ℕ) (p : List Bool) → text ≡ digits p ++ behind → length p ≡ 4097 → IsFault text fault.TooLong
limit_in_prefix text behind p splits long =
    let last = last_letter p (omega (arith, long)) in
    let pushed = digits_push p last.0 last.1 last.2 in
    let rest : text ≡ digits last.0 ++ digit last.1 ∷ behind =
    splits ∙ ap (λ (r : List ℕ). r ++ behind) pushed ∙ append_assoc (digits last.0) (digit last.1 ∷ []) behind in
    let count : length p ≡ length last.0 + 1 = ap length last.2 ∙ length_push last.0 last.1 in (
      length (digits last.0),
      passes text (digits last.0) behind (digit last.1) rest (subst CanGoOn pushed (letters_go_on p)) (omega (arith, count, long, letter_count-digits last.0))
          (is_digit-digit last.1),
    )

pub limit_in_period : (text behind : List ℕ) (p q : List Bool) → text ≡ digits p ++ 40 ∷ (digits q ++ behind) → length p ≤ 4096 → length p + length q ≡ 4097
    → IsFault text fault.TooLong
limit_in_period text behind p q splits few long =
    let last = last_letter q (omega (arith, few, long)) in
    let pushed = digits_push q last.0 last.1 last.2 in
    let front = digits p ++ 40 ∷ digits last.0 in
    let joined : digits p ++ 40 ∷ digits q ≡ front ++ digit last.1 ∷ [] =
    ap (λ (r : List ℕ). digits p ++ 40 ∷ r) pushed ∙ sym (append_assoc (digits p) (40 ∷ digits last.0) (digit last.1 ∷ [])) in
    let rest : text ≡ front ++ digit last.1 ∷ behind =
    splits
    ∙ ap (λ (r : List ℕ). digits p ++ 40 ∷ r) (ap (λ (r : List ℕ). r ++ behind) pushed ∙ append_assoc (digits last.0) (digit last.1 ∷ []) behind)
    ∙ sym (append_assoc (digits p) (40 ∷ digits last.0) (digit last.1 ∷ behind)) in
    let count : length q ≡ length last.0 + 1 = ap length last.2 ∙ length_push last.0 last.1 in (
      length front,
      passes text front behind (digit last.1) rest (subst CanGoOn joined (inside_goes_on p q)) (omega (arith, count, long, letter_count-inside p last.0))
          (is_digit-digit last.1),
    )

-- FAULTS INSIDE THE PERIOD, behind letters p, ( and letters q
module _ (text : List ℕ) (p q : List Bool) (few : length p + length q ≤ 4096) where
  front_splits : (x : List ℕ) → text ≡ digits p ++ 40 ∷ (digits q ++ x) → text ≡ (digits p ++ 40 ∷ digits q) ++ x
  front_splits x splits = splits ∙ sym (append_assoc (digits p) (40 ∷ digits q) x)

  read_inside : (x : List ℕ) → text ≡ digits p ++ 40 ∷ (digits q ++ x) → IsReadTo text (length p + 1 + length q)
  read_inside x splits =
      read_front text (digits p ++ 40 ∷ digits q) x (length p + 1 + length q) (front_splits x splits) (length-inside p q) (inside_goes_on p q)
      (omega (arith, letter_count-inside p q, few))

  taken_inside : (b : ℕ) (behind : List ℕ) → text ≡ digits p ++ 40 ∷ (digits q ++ b ∷ behind)
      → take (length p + 1 + length q + 1) text ≡ digits p ++ 40 ∷ (digits q ++ b ∷ [])
  taken_inside b behind splits =
      next_taken text (digits p ++ 40 ∷ digits q) behind b (length p + 1 + length q) (front_splits (b ∷ behind) splits) (length-inside p q)
      ∙ append_assoc (digits p) (40 ∷ digits q) (b ∷ [])

  there_inside : (b : ℕ) (behind : List ℕ) → text ≡ digits p ++ 40 ∷ (digits q ++ b ∷ behind) → length p + 1 + length q < length text
  there_inside b behind splits =
      next_there text (digits p ++ 40 ∷ digits q) behind b (length p + 1 + length q) (front_splits (b ∷ behind) splits) (length-inside p q)

-- after the ( only its ) ends without a period
closing_inside : (p : List Bool) (x : List ℕ) → EndsWithoutPeriod (digits p ++ 40 ∷ x) → x ≡ 41 ∷ []
closing_inside p x e =
    let s : 40 ∷ x ≡ 40 ∷ 41 ∷ [] = (split_unique p e.0 (40 ∷ x) (40 ∷ 41 ∷ []) refl refl e.1).1 in
    cc

pub empty_period : (text behind : List ℕ) (p : List Bool) → text ≡ digits p ++ 40 ∷ 41 ∷ behind → length p ≤ 4096 → IsFault text fault.Empty
empty_period text behind p splits few =
    let short : length p + length {A = Bool} [] ≤ 4096 = omega (arith, few) in
    inr (
      length p + 1 + length {A = Bool} [],
      record {
        read = read_inside text p [] short (41 ∷ behind) splits;
        closes = (p, taken_inside text p [] short 41 behind splits);
      },
    )

pub stray_inside : (text : List ℕ) (p q : List Bool) (b : ℕ) (behind : List ℕ) → text ≡ digits p ++ 40 ∷ (digits q ++ b ∷ behind) → length p + length q ≤ 4096
    → is_digit b ≡ false → (b ≡ 41 → ⊥) →
    IsFault text (fault.BadLetter (length p + 1 + length q))
stray_inside text p q b behind splits few other not_close =
    let taken = taken_inside text p q few b behind splits in
    inl
    (record {
      read = read_inside text p q few (b ∷ behind) splits;
      there = there_inside text p q few b behind splits;
      stops = λ g. stray_in_period p q b other not_close (subst CanGoOn taken g);
      not_closing = λ e. no_close q (closing_inside p (digits q ++ b ∷ []) (subst EndsWithoutPeriod taken e));
    })
  where
    no_close : (q : List Bool) → digits q ++ b ∷ [] ≡ 41 ∷ [] → ⊥
    no_close [] e = not_close (cc)
    no_close (x ∷ q) e = digit_is_not x 41 refl (cc)

pub ends_inside : (text : List ℕ) (p q : List Bool) → text ≡ digits p ++ 40 ∷ digits q → length p + length q ≤ 4096
    → IsFault text (fault.BadLetter (length p + 1 + length q))
ends_inside text p q whole few =
    inr
    (record {
      read = read_inside text p q few [] (whole ∙ ap (λ (r : List ℕ). digits p ++ 40 ∷ r) (sym (append-nil (digits q))));
      ends = sym (ap length whole ∙ length-inside p q);
      inside = (p, q, whole);
    })

abbrev closed : List Bool → List Bool → List ℕ
closed p q = digits p ++ 40 ∷ (digits q ++ 41 ∷ [])

pub stray_behind_period : (text : List ℕ) (p q : List Bool) (b : ℕ) (behind : List ℕ) → text ≡ digits p ++ 40 ∷ (digits q ++ 41 ∷ b ∷ behind)
    → length p + length q ≤ 4096 → 0 < length q →
    IsFault text (fault.BadLetter (length p + 1 + length q + 1))
stray_behind_period text p q b behind splits few some =
    inl
    (record {
      read =
          read_front text (closed p q) (b ∷ behind) (length p + 1 + length q + 1) grouped (length-closed p q) (closed_goes_on p q some)
          (omega (arith, letter_count-closed p q, few));
      there = next_there text (closed p q) behind b (length p + 1 + length q + 1) grouped (length-closed p q);
      stops = λ g. stray_behind p q b (subst CanGoOn taken g);
      not_closing = λ e. no_close q (closing_inside p (digits q ++ 41 ∷ b ∷ []) (subst EndsWithoutPeriod taken e));
    })
  where
    regroup : (x : List ℕ) → digits p ++ 40 ∷ (digits q ++ 41 ∷ x) ≡ closed p q ++ x
    regroup x = ap (λ (r : List ℕ). digits p ++ 40 ∷ r) (sym (append_assoc (digits q) (41 ∷ []) x))
        ∙ sym (append_assoc (digits p) (40 ∷ (digits q ++ 41 ∷ [])) x)

    grouped : text ≡ closed p q ++ b ∷ behind
    grouped = splits ∙ regroup (b ∷ behind)

    taken : take (length p + 1 + length q + 1 + 1) text ≡ digits p ++ 40 ∷ (digits q ++ 41 ∷ b ∷ [])
    taken = next_taken text (closed p q) behind b (length p + 1 + length q + 1) grouped (length-closed p q) ∙ sym (regroup (b ∷ []))

    no_close : (q : List Bool) → digits q ++ 41 ∷ b ∷ [] ≡ 41 ∷ [] → ⊥
    no_close [] e = cc
    no_close (x ∷ q) e = digit_is_not x 41 refl (cc)

-- WORDS
pub finite_reads : (text : List ℕ) (p : List Bool) → text ≡ digits p → 0 < length p → length p ≤ 4096 → Reads text (record { prefix = p; period = [] })
finite_reads text p whole some few =
    record { spelled = whole ∙ sym (append-nil (digits p)); some_letter = omega (arith, some); few_letters = omega (arith, few) }

pub periodic_reads : (text : List ℕ) (p q : List Bool) → text ≡ digits p ++ 40 ∷ (digits q ++ 41 ∷ []) → 0 < length q → length p + length q ≤ 4096
    → Reads text (record { prefix = p; period = q })
periodic_reads text p [] whole some few = absurd (omega (arith, some))
periodic_reads text p (x ∷ q) whole some few = record { spelled = whole; some_letter = omega (arith, some); few_letters = few }
