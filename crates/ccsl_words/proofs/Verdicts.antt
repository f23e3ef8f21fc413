-- A text has one verdict.
use Rattle.std.proofs.Common.{◌≡◌, ℕ, ◌+◌, ◌<◌, ◌≤◌, List, [], ◌∷◌, ◌++◌, length, take, Bool, Result, Ok, Err, refl, sym, ap, ◌∙◌, subst, inl, inr, ⊎_elim}
use Rattle.std.proofs.Common.{arith}
use Rattle.std.proofs.lemmas.Bool.{cases_lt}
use Rattle.std.proofs.lemmas.List.{take-take, take_all}
use Rattle.std.proofs.lemmas.List.Sums.{sum_by-take-le}
use Rattle.ccsl_words.specs.declared.fault.WordFault.{WordFault}
use Rattle.ccsl_words.specs.declared.fault.WordFault.TheVariants as fault
use Rattle.ccsl_words.specs.Word.{BinaryWord, word_len}
use Rattle.ccsl_words.specs.Spelling.{digits, spelling, is_digit}
use Rattle.ccsl_words.specs.Reads.{Reads}
use Rattle.ccsl_words.specs.Fault.{CanGoOn, EndsWithoutPeriod, EndsInsidePeriod, letter_count, IsReadTo, ClosesEmptyAt, PassesLimitAt, StrayAt, EndsAt, IsFault}
use Rattle.ccsl_words.specs.Verdict.{IsVerdict}
use Rattle.ccsl_words.proofs.Splits.{spelling_apart}
use Rattle.ccsl_words.proofs.Fronts.{word_goes_on, take_goes_on, empty_stops, inside_no_word, letter_count-spelling}
use Rattle.std.proofs.Common.{cond}

letter_count-take-le : (n : ℕ) (text : List ℕ) → letter_count (take n text) ≤ letter_count text
letter_count-take-le n text = sum_by-take-le (λ b. cond (is_digit b) 1 0) text n

-- what can be read to a place can be read to each place before it
read_before : (text : List ℕ) (m n : ℕ) → m ≤ n → IsReadTo text n → IsReadTo text m
read_before text m n l r =
    let same : take m (take n text) ≡ take m text = take-take m n text l in
    record {
      within = omega (arith, l, r.within);
      goes_on = subst CanGoOn same (take_goes_on (take n text) m r.goes_on);
      few_letters = (let e = ap letter_count same in omega (arith, e, letter_count-take-le m (take n text), r.few_letters));
    }

-- READING STOPS at a place: it can be read to there, and no further
record StopsAt (text : List ℕ) (place : ℕ) : Type 0 where
  read : IsReadTo text place
  no_further : place < length text → IsReadTo text (place + 1) → ⊥

not_past : (text : List ℕ) (m n : ℕ) → StopsAt text m → StopsAt text n → m < n → ⊥
not_past text m n a b l = a.no_further (omega (arith, l, b.read.within)) (read_before text (m + 1) n (omega (arith, l)) b.read)

stop_unique : (text : List ℕ) (m n : ℕ) → StopsAt text m → StopsAt text n → m ≡ n
stop_unique text m n a b =
    ⊎_elim
    (λ (l : m < n). absurd (not_past text m n a b l))
    (λ (l : n ≤ m).
    ⊎_elim (λ (k : n < m). absurd (not_past text n m b a k)) (λ (k : m ≤ n). let e : m ≡ n = omega (arith, l, k) in e) (cases_lt n m))
    (cases_lt m n)

closes_stops : (text : List ℕ) (place : ℕ) → ClosesEmptyAt text place → StopsAt text place
closes_stops text place f = record { read = f.read; no_further = λ _ r. empty_stops (take (place + 1) text) f.closes r.goes_on }

passes_stops : (text : List ℕ) (place : ℕ) → PassesLimitAt text place → StopsAt text place
passes_stops text place f = record { read = f.read; no_further = λ _ r. omega (arith, r.few_letters, f.letters) }

stray_stops : (text : List ℕ) (place : ℕ) → StrayAt text place → StopsAt text place
stray_stops text place f = record { read = f.read; no_further = λ _ r. f.stops r.goes_on }

ends_stops : (text : List ℕ) (place : ℕ) → EndsAt text place → StopsAt text place
ends_stops text place f = record { read = f.read; no_further = λ l _. omega (arith, l, f.ends) }

-- WORDS have no fault
any_goes_on : (text : List ℕ) (w : BinaryWord) (n : ℕ) → text ≡ spelling w → CanGoOn (take n text)
any_goes_on text w n e = take_goes_on text n (subst CanGoOn (sym e) (word_goes_on w))

empty_letters : (text : List ℕ) → text ≡ [] → (n : ℕ) → letter_count (take n text) ≡ 0
empty_letters text e n =
    let none : letter_count text ≡ 0 = ap letter_count e in
    omega (arith, none, letter_count-take-le n text)

word_letters : (text : List ℕ) (w : BinaryWord) → text ≡ spelling w → letter_count text ≡ word_len w
word_letters text w e = ap letter_count e ∙ letter_count-spelling w

pub word_no_fault : (text : List ℕ) (w : BinaryWord) (e : WordFault) → Reads text w → IsFault text e → ⊥
word_no_fault text w fault.Empty r (inl nil) =
    let none : letter_count text ≡ 0 = ap letter_count nil in
    omega (arith, none, word_letters text w r.spelled, r.some_letter)
word_no_fault text w fault.Empty r (inr f) = empty_stops (take (f.0 + 1) text) f.1.closes (any_goes_on text w (f.0 + 1) r.spelled)
word_no_fault text w (fault.BadLetter place) r (inl f) = f.stops (any_goes_on text w (place + 1) r.spelled)
word_no_fault text w (fault.BadLetter place) r (inr f) = inside_no_word text w f.inside r.spelled
word_no_fault text w fault.TooLong r f = omega (arith, f.1.letters, letter_count-take-le (f.0 + 1) text, word_letters text w r.spelled, r.few_letters)
word_no_fault text w fault.Memory r f = f

-- NO TEXT HAS TWO FAULTS
inside_some : (text : List ℕ) → EndsInsidePeriod text → text ≡ [] → ⊥
inside_some text inside nil = none inside.0 (sym inside.2 ∙ nil)
  where
    none : (p : List Bool) → digits p ++ 40 ∷ digits inside.1 ≡ [] → ⊥
    none [] e = cc
    none (x ∷ p) e = cc

closes_not_passes : (text : List ℕ) (m n : ℕ) → ClosesEmptyAt text m → PassesLimitAt text n → ⊥
closes_not_passes text m n f g =
    let same = stop_unique text m n (closes_stops text m f) (passes_stops text n g) in
    empty_stops (take (n + 1) text) (subst (λ (k : ℕ). EndsWithoutPeriod (take (k + 1) text)) same f.closes) g.goes_on

closes_not_stray : (text : List ℕ) (m n : ℕ) → ClosesEmptyAt text m → StrayAt text n → ⊥
closes_not_stray text m n f g =
    let same = stop_unique text m n (closes_stops text m f) (stray_stops text n g) in
    g.not_closing (subst (λ (k : ℕ). EndsWithoutPeriod (take (k + 1) text)) same f.closes)

-- at the end of the text no more is taken
taken_all : (text : List ℕ) (place : ℕ) → place ≡ length text → take (place + 1) text ≡ take place text
taken_all text place e = take_all (place + 1) text (omega (arith, e)) ∙ sym (take_all place text (omega (arith, e)))

closes_not_ends : (text : List ℕ) (m n : ℕ) → ClosesEmptyAt text m → EndsAt text n → ⊥
closes_not_ends text m n f g =
    let same = stop_unique text m n (closes_stops text m f) (ends_stops text n g) in
    empty_stops (take (m + 1) text) f.closes (subst CanGoOn (sym (taken_all text m (same ∙ g.ends))) f.read.goes_on)

passes_not_stray : (text : List ℕ) (m n : ℕ) → PassesLimitAt text m → StrayAt text n → ⊥
passes_not_stray text m n f g =
    let same = stop_unique text m n (passes_stops text m f) (stray_stops text n g) in
    g.stops (subst (λ (k : ℕ). CanGoOn (take (k + 1) text)) same f.goes_on)

passes_not_ends : (text : List ℕ) (m n : ℕ) → PassesLimitAt text m → EndsAt text n → ⊥
passes_not_ends text m n f g =
    let same = stop_unique text m n (passes_stops text m f) (ends_stops text n g) in
    let count = ap letter_count (taken_all text m (same ∙ g.ends)) in
    omega (arith, count, f.letters, f.read.few_letters)

empty_not_long : (text : List ℕ) → IsFault text fault.Empty → IsFault text fault.TooLong → ⊥
empty_not_long text (inl nil) g = omega (arith, g.1.letters, empty_letters text nil (g.0 + 1))
empty_not_long text (inr f) g = closes_not_passes text f.0 g.0 f.1 g.1

empty_not_bad : (text : List ℕ) (n : ℕ) → IsFault text fault.Empty → IsFault text (fault.BadLetter n) → ⊥
empty_not_bad text n (inl nil) (inl g) = let none : length text ≡ 0 = ap length nil in omega (arith, none, g.there)
empty_not_bad text n (inl nil) (inr g) = inside_some text g.inside nil
empty_not_bad text n (inr f) (inl g) = closes_not_stray text f.0 n f.1 g
empty_not_bad text n (inr f) (inr g) = closes_not_ends text f.0 n f.1 g

long_not_bad : (text : List ℕ) (n : ℕ) → IsFault text fault.TooLong → IsFault text (fault.BadLetter n) → ⊥
long_not_bad text n f (inl g) = passes_not_stray text f.0 n f.1 g
long_not_bad text n f (inr g) = passes_not_ends text f.0 n f.1 g

bad_stops : (text : List ℕ) (n : ℕ) → IsFault text (fault.BadLetter n) → StopsAt text n
bad_stops text n (inl g) = stray_stops text n g
bad_stops text n (inr g) = ends_stops text n g

one_fault : (text : List ℕ) (e f : WordFault) → IsFault text e → IsFault text f → e ≡ f
one_fault text fault.Empty fault.Empty a b = refl
one_fault text fault.Empty (fault.BadLetter n) a b = absurd (empty_not_bad text n a b)
one_fault text fault.Empty fault.TooLong a b = absurd (empty_not_long text a b)
one_fault text (fault.BadLetter m) fault.Empty a b = absurd (empty_not_bad text m b a)
one_fault text (fault.BadLetter m) (fault.BadLetter n) a b = ap (λ (k : ℕ). fault.BadLetter k) (stop_unique text m n (bad_stops text m a) (bad_stops text n b))
one_fault text (fault.BadLetter m) fault.TooLong a b = absurd (long_not_bad text m b a)
one_fault text fault.TooLong fault.Empty a b = absurd (empty_not_long text b a)
one_fault text fault.TooLong (fault.BadLetter n) a b = absurd (long_not_bad text n a b)
one_fault text fault.TooLong fault.TooLong a b = refl
one_fault text fault.Memory f a b = absurd a
one_fault text e fault.Memory a b = absurd b

pub one_verdict : (text : List ℕ) (v w : Result BinaryWord WordFault) → IsVerdict text v → IsVerdict text w → v ≡ w
one_verdict text (Ok v) (Ok w) a b = ap (λ (x : BinaryWord). Ok x) (spelling_apart v w (sym a.spelled ∙ b.spelled))
one_verdict text (Ok v) (Err e) a b = absurd (word_no_fault text v e a b)
one_verdict text (Err e) (Ok w) a b = absurd (word_no_fault text w e b a)
one_verdict text (Err e) (Err f) a b = ap (λ (x : WordFault). Err x) (one_fault text e f a b)
