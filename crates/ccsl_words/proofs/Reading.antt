-- What is computed from a text is what the text reads as.
use Rattle.std.proofs.Common.{◌≡◌, ◌≢◌, ℕ, suc, ◌+◌, ◌-◌, ◌<◌, ◌≤◌, List, [], ◌∷◌, ◌++◌, length, take, drop, map, take_while, Bool, true, false, ◌||◌, Result}
use Rattle.std.proofs.Common.{Ok, Err, Option, Some, None, refl, sym, ap, ap₂, ◌∙◌, subst, inl, ⊎_elim, cond, nat_eq, nat_le, not, ◌&&◌, append_assoc, arith}
use Rattle.std.proofs.lemmas.Bool.{cases_Bool, cases_lt, cases_eq, eqb-true, le-leb, leb-true}
use Rattle.std.proofs.lemmas.List.{take-append-drop, append-nil, length-take, map-append}
use Rattle.std.proofs.lemmas.List.Sums.{take_while-cons}
use Rattle.std.specs.Prelude.{bytes_eq, codes, IfOk, IfErr}
use Rattle.ccsl_words.specs.declared.fault.WordFault.{WordFault}
use Rattle.ccsl_words.specs.declared.fault.WordFault.TheVariants as fault
use Rattle.ccsl_words.specs.Word.{BinaryWord, word_len}
use Rattle.ccsl_base.specs.Empty.{is_empty}
use Rattle.ccsl_words.specs.Spelling.{digit, digits, period_text, spelling, is_digit, leading_letters, behind_letters, short_word, word_closed, word_with}
use Rattle.ccsl_words.specs.Spelling.{read_word}
use Rattle.ccsl_words.specs.Reads.{Reads}
use Rattle.ccsl_words.specs.Fault.{IsFault}
use Rattle.ccsl_words.specs.Front.{begins_with_letter, LeadsWith}
use Rattle.ccsl_words.specs.Verdict.{IsVerdict}
use Rattle.ccsl_words.proofs.Splits.{split_unique, period_begins}
use Rattle.ccsl_words.proofs.Verdicts.{word_no_fault}
use Rattle.ccsl_words.proofs.Faults.{stray_after_letters, limit_in_prefix, limit_in_period, empty_period, stray_inside, ends_inside, stray_behind_period}
use Rattle.ccsl_words.proofs.Faults.{finite_reads, periodic_reads}

-- THE LETTERS at the front
leading-cons : (b : ℕ) (bs : List ℕ) (letter : Bool) → is_digit b ≡ letter → leading_letters (b ∷ bs) ≡ cond letter (nat_eq b 49 ∷ leading_letters bs) []
leading-cons b bs letter e =
    ap (map (λ b. nat_eq b 49)) (take_while-cons is_digit b bs ∙ ap (λ (c : Bool). cond c (b ∷ take_while is_digit bs) []) e) ∙ through letter
  where
    through : (c : Bool) → map (λ b. nat_eq b 49) (cond c (b ∷ take_while is_digit bs) []) ≡ cond c (nat_eq b 49 ∷ leading_letters bs) []
    through true = refl
    through false = refl

digit_back : (b : ℕ) → is_digit b ≡ true → digit (nat_eq b 49) ≡ b
digit_back b e =
    ⊎_elim
    (λ (one : nat_eq b 49 ≡ true). ap digit one ∙ sym (eqb-true b 49 one))
    (λ (other : nat_eq b 49 ≡ false). ap digit other ∙ sym (eqb-true b 48 (zero (nat_eq b 48) (sym (ap (λ (c : Bool). nat_eq b 48 || c) other) ∙ e))))
    (cases_Bool (nat_eq b 49))
  where
    zero : (c : Bool) → (c || false) ≡ true → c ≡ true
    zero true e = refl
    zero false e = e

pub leads : (text : List ℕ) → LeadsWith text (leading_letters text)
leads [] = record { begins = refl; stops = refl }
leads (b ∷ bs) =
    ⊎_elim
    (λ (e : is_digit b ≡ true).
    subst (LeadsWith (b ∷ bs)) (sym (leading-cons b bs true e))
    (record { begins = ap₂ (λ (c : ℕ) (r : List ℕ). c ∷ r) (sym (digit_back b e)) (leads bs).begins; stops = (leads bs).stops }))
    (λ (e : is_digit b ≡ false). subst (LeadsWith (b ∷ bs)) (sym (leading-cons b bs false e)) (record { begins = refl; stops = e }))
    (cases_Bool (is_digit b))

-- what follows the letters fixes them
pub front_is : (p : List Bool) (x : List ℕ) → begins_with_letter x ≡ false → (p ≡ leading_letters (digits p ++ x)) × (x ≡ behind_letters (digits p ++ x))
front_is p x other =
    let text = digits p ++ x in
    split_unique p (leading_letters text) x (behind_letters text) other (leads text).stops (leads text).begins

-- WORDS from their spelling
short-few : (w : BinaryWord) → word_len w ≤ 4096 → short_word w ≡ Some w
short-few w few = ap (λ (c : Bool). cond c (Some w) None) (le-leb (word_len w) 4096 few)

closed_word : (p : List Bool) (x : Bool) (q : List Bool) → length p + length (x ∷ q) ≤ 4096
    → word_with (40 ∷ (digits (x ∷ q) ++ 41 ∷ [])) p ≡ Some (record { prefix = p; period = x ∷ q })
closed_word p x q few =
    let s = front_is (x ∷ q) (41 ∷ []) refl in
    ap₂ (word_closed p) (sym s.0) (sym s.1) ∙ short-few (record { prefix = p; period = x ∷ q }) few

spelled_word : (p q : List Bool) → 0 < length p + length q → length p + length q ≤ 4096 → word_with (period_text q) p ≡ Some (record { prefix = p; period = q })
spelled_word [] [] some few = absurd (omega (arith, some))
spelled_word (y ∷ p) [] some few = short-few (record { prefix = y ∷ p; period = [] }) few
spelled_word p (x ∷ q) some few = closed_word p x q few

pub read-spelling : (w : BinaryWord) → 0 < word_len w → word_len w ≤ 4096 → read_word (spelling w) ≡ Some w
read-spelling w some few =
    let s = front_is w.prefix (period_text w.period) (period_begins w.period) in
    ap₂ word_with (sym s.1) (sym s.0) ∙ spelled_word w.prefix w.period some few

-- WORDS that are computed
short_some : (v w : BinaryWord) → short_word v ≡ Some w → (v ≡ w) × (word_len v ≤ 4096)
short_some v w e =
    ⊎_elim
    (λ (few : nat_le (word_len v) 4096 ≡ true).
    (let s : Some v ≡ Some w = sym (ap (λ (c : Bool). cond c (Some v) None) few) ∙ e in (let same : v ≡ w = cc in same, leb-true (word_len v) 4096 few)))
    (λ (many : nat_le (word_len v) 4096 ≡ false). absurd (let s : None ≡ Some w = sym (ap (λ (c : Bool). cond c (Some v) None) many) ∙ e in cc))
    (cases_Bool (nat_le (word_len v) 4096))

given : {A : Type 0} {x : A} (c : Bool) (o : Option A) → cond c o None ≡ Some x → (c ≡ true) × (o ≡ Some x)
given true o e = (refl, e)
given false o e = absurd (cc)

closing : (c : Bool) (y : List ℕ) (q : List Bool) → (bytes_eq y (41 ∷ []) && not (is_empty q)) ≡ true → (y ≡ 41 ∷ []) × (0 < length q)
closing c y [] e = absurd (both_false (bytes_eq y (41 ∷ [])) e)
  where
    both_false : (b : Bool) → (b && false) ≡ true → ⊥
    both_false true e = cc
    both_false false e = cc
closing c [] (x ∷ q) e = absurd (cc)
closing c (b ∷ []) (x ∷ q) e = (ap (λ (n : ℕ). n ∷ []) (eqb-true b 41 (both (nat_eq b 41) e)), omega arith)
  where
    both : (c : Bool) → ((c && true) && true) ≡ true → c ≡ true
    both true e = refl
    both false e = e
closing c (b ∷ d ∷ y) (x ∷ q) e = absurd (both (nat_eq b 41) e)
  where
    both : (c : Bool) → ((c && false) && true) ≡ true → ⊥
    both true e = cc
    both false e = cc

closed_reads : (text : List ℕ) (p q : List Bool) (y : List ℕ) (w : BinaryWord) → text ≡ digits p ++ 40 ∷ (digits q ++ y) → word_closed p q y ≡ Some w
    → Reads text w
closed_reads text p q y w splits e =
    let test = given (bytes_eq y (codes ")") && not (is_empty q)) (short_word (record { prefix = p; period = q })) e in
    let shape = closing true y q test.0 in
    let word = short_some (record { prefix = p; period = q }) w test.1 in
    subst (Reads text) word.0 (periodic_reads text p q (splits ∙ ap (λ (r : List ℕ). digits p ++ 40 ∷ (digits q ++ r)) shape.0) shape.1 word.1)

with_reads : (text : List ℕ) (x : List ℕ) (p : List Bool) (w : BinaryWord) → text ≡ digits p ++ x → word_with x p ≡ Some w → Reads text w
with_reads text [] [] w splits e = absurd (cc)
with_reads text [] (y ∷ p) w splits e =
    let word = short_some (record { prefix = y ∷ p; period = [] }) w e in
    subst (Reads text) word.0
    (finite_reads text (y ∷ p) (splits ∙ append-nil (digits (y ∷ p))) (let s : 0 < suc (length p) = omega arith in s) (omega (arith, word.1)))
with_reads text (b ∷ bs) p w splits e =
    let test = given (nat_eq b 40) (word_closed p (leading_letters bs) (behind_letters bs)) e in
    let opens : b ≡ 40 = eqb-true b 40 test.0 in
    closed_reads text p (leading_letters bs) (behind_letters bs) w
    (splits ∙ ap₂ (λ (c : ℕ) (r : List ℕ). digits p ++ c ∷ r) opens (leads bs).begins) test.1

pub read_reads : (text : List ℕ) (w : BinaryWord) → read_word text ≡ Some w → Reads text w
read_reads text w e = with_reads text (behind_letters text) (leading_letters text) w (leads text).begins e

pub reads_read : (text : List ℕ) (w : BinaryWord) → Reads text w → read_word text ≡ Some w
reads_read text w r = ap read_word r.spelled ∙ read-spelling w r.some_letter r.few_letters

-- EACH TEXT has a verdict
abbrev Verdict : List ℕ → Type 0
Verdict text = (v : Result BinaryWord WordFault) × IsVerdict text v

module _ (text : List ℕ) where
  word_verdict : (w : BinaryWord) → Reads text w → Verdict text
  word_verdict w r = (Ok w, r)

  fault_verdict : (e : WordFault) → IsFault text e → Verdict text
  fault_verdict e f = (Err e, f)

  -- what stands behind the ) of a period
  closed_verdict : (p q : List Bool) (z : List ℕ) → text ≡ digits p ++ 40 ∷ (digits q ++ 41 ∷ z) → length p + length q ≤ 4096 → Verdict text
  closed_verdict p [] z splits few = fault_verdict fault.Empty (empty_period text z p splits (omega (arith, few)))
  closed_verdict p (x ∷ q) [] splits few =
      word_verdict (record { prefix = p; period = x ∷ q }) (periodic_reads text p (x ∷ q) splits (let s : 0 < suc (length q) = omega arith in s) few)
  closed_verdict p (x ∷ q) (d ∷ z) splits few =
      fault_verdict (fault.BadLetter (length p + 1 + length (x ∷ q) + 1))
      (stray_behind_period text p (x ∷ q) d z splits few (let s : 0 < suc (length q) = omega arith in s))

  -- what stands behind the letters of a period
  period_verdict : (p q : List Bool) (y : List ℕ) → text ≡ digits p ++ 40 ∷ (digits q ++ y) → begins_with_letter y ≡ false → length p + length q ≤ 4096
      → Verdict text
  period_verdict p q [] splits other few =
      fault_verdict (fault.BadLetter (length p + 1 + length q))
      (ends_inside text p q (splits ∙ ap (λ (r : List ℕ). digits p ++ 40 ∷ r) (append-nil (digits q))) few)
  period_verdict p q (c ∷ y) splits other few =
      ⊎_elim
      (λ (e : c ≡ 41). closed_verdict p q y (splits ∙ ap (λ (b : ℕ). digits p ++ 40 ∷ (digits q ++ b ∷ y)) e) few)
      (λ (ne : c ≡ 41 → ⊥). fault_verdict (fault.BadLetter (length p + 1 + length q)) (stray_inside text p q c y splits few other ne))
      (cases_eq c 41)

  -- how many letters a period has
  opened_verdict : (p q : List Bool) (y : List ℕ) → text ≡ digits p ++ 40 ∷ (digits q ++ y) → begins_with_letter y ≡ false → length p ≤ 4096 → Verdict text
  opened_verdict p q y splits other few =
      ⊎_elim
      (λ (many : 4096 < length p + length q).
      let n = 4097 - length p in
      let rest = digits (drop n q) ++ y in
      let parts : digits q ++ y ≡ digits (take n q) ++ rest =
      ap (λ (r : List Bool). digits r ++ y) (sym (take-append-drop n q)) ∙ ap (λ (r : List ℕ). r ++ y) (map-append digit (take n q) (drop n q))
      ∙ append_assoc (digits (take n q)) (digits (drop n q)) y in
      fault_verdict fault.TooLong
      (limit_in_period text rest p (take n q) (splits ∙ ap (λ (r : List ℕ). digits p ++ 40 ∷ r) parts) few (omega (arith, many, few, length-take n q))))
      (λ (l : length p + length q ≤ 4096). period_verdict p q y splits other l)
      (cases_lt 4096 (length p + length q))

  -- what stands behind the letters of the prefix
  prefix_verdict : (p : List Bool) (x : List ℕ) → text ≡ digits p ++ x → begins_with_letter x ≡ false → length p ≤ 4096 → Verdict text
  prefix_verdict [] [] splits other few = fault_verdict fault.Empty (inl splits)
  prefix_verdict (a ∷ p) [] splits other few =
      word_verdict (record { prefix = a ∷ p; period = [] })
      (finite_reads text (a ∷ p) (splits ∙ append-nil (digits (a ∷ p))) (let s : 0 < suc (length p) = omega arith in s) few)
  prefix_verdict p (b ∷ bs) splits other few =
      ⊎_elim
      (λ (e : b ≡ 40).
      opened_verdict p (leading_letters bs) (behind_letters bs) (splits ∙ ap₂ (λ (c : ℕ) (r : List ℕ). digits p ++ c ∷ r) e (leads bs).begins) (leads bs).stops
      few)
      (λ (ne : b ≡ 40 → ⊥). fault_verdict (fault.BadLetter (length p)) (stray_after_letters text p b bs splits few other ne))
      (cases_eq b 40)

  pub some_verdict : Verdict text
  some_verdict =
      let p = leading_letters text in
      let x = behind_letters text in
      ⊎_elim
      (λ (many : 4096 < length p).
      let rest = digits (drop 4097 p) ++ x in
      let parts : digits p ++ x ≡ digits (take 4097 p) ++ rest =
      ap (λ (r : List Bool). digits r ++ x) (sym (take-append-drop 4097 p))
      ∙ ap (λ (r : List ℕ). r ++ x) (map-append digit (take 4097 p) (drop 4097 p))
      ∙ append_assoc (digits (take 4097 p)) (digits (drop 4097 p)) x in
      fault_verdict fault.TooLong (limit_in_prefix text rest (take 4097 p) ((leads text).begins ∙ parts) (omega (arith, many, length-take 4097 p))))
      (λ (l : length p ≤ 4096). prefix_verdict p x (leads text).begins (leads text).stops l)
      (cases_lt 4096 (length p))

-- a text with a fault reads as no word
pub fault-read : (text : List ℕ) (e : WordFault) → IsFault text e → read_word text ≡ None
fault-read text e f = none (read_word text) refl
  where
    none : (o : Option BinaryWord) → read_word text ≡ o → read_word text ≡ None
    none None e' = e'
    none (Some w) e' = absurd (word_no_fault text w e (read_reads text w e') f)

-- what holds of an answer holds of what is computed
pub word_computed : (text : List ℕ) (r : Result BinaryWord WordFault) → IfOk r (λ w. Reads text w) → IfOk r (λ w. read_word text ≡ Some w)
word_computed text (Ok w) h = reads_read text w h
word_computed text (Err e) h = tt

pub fault_refused : (text : List ℕ) (r : Result BinaryWord WordFault) → IfErr r (λ e. e ≢ fault.Memory → IsFault text e)
    → IfErr r (λ e. e ≢ fault.Memory → read_word text ≡ None)
fault_refused text (Ok w) h = tt
fault_refused text (Err e) h = λ ne. fault-read text e (h ne)
