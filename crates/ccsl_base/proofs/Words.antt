-- What words of 64 bits say as a set of clocks.
use Rattle.std.proofs.Common.{◌≡◌, ◌≢◌, ℕ, zero, suc, ◌+◌, ◌-◌, ◌<◌, ◌≤◌, ◌*◌, ◌/◌, ◌%◌, ◌^◌, List, [], ◌∷◌, length, Bool, true, false, refl, sym, ap, ◌∙◌}
use Rattle.std.proofs.Common.{⊎_elim, subst, arith, nat_eq, get_or, slice_set, replicate, add-suc, zero-mul, pow-suc, div-one, take, ap₂, ◌||◌, ◌&&◌, not, max}
use Rattle.std.proofs.Common.{min, bit_or, bit_and}
use Rattle.std.specs.Int.{bit_at, bit_not, w64}
use mir.Val.{bool_byte}
use Rattle.std.specs.List.{sum_by}
use Rattle.std.proofs.lemmas.List.Sums.{sum_by-cons, sum_by_push}
use Rattle.std.proofs.lemmas.Bool.{eqb-true, cases_eq, cases_lt}
use Rattle.std.proofs.lemmas.List.{get_or-set_same, get_or-set_other, get_or_past, take_more, get_or-take, length-take-le, length-set}
use Rattle.std.proofs.lemmas.Nat.{div_below}
use Rattle.std.specs.Int.Count.{ones, ones_step}
use Rattle.std.proofs.Math.Nat.{div-div-eq-div-mul}
use Rattle.std.proofs.Math.Bool.{or-false}
use Rattle.std.proofs.lemmas.Nat.Bits.{bit_at-lt, bit_at-zero, bit_at_or, bit_at_and, bit_at_not, bit_at_set_same, bit_at_set_other, bit_at_clear_same}
use Rattle.std.proofs.lemmas.Nat.Bits.{bit_at_clear_other}
use Rattle.ccsl_base.specs.Bits.{is_set, bit_of, members_where, members_of, members_left, EmptyFrom, size_of_word}
use Rattle.ccsl_base.specs.Clocks.{ticks_in, with_clock, is_ascending, are_below}
use Rattle.ccsl_base.specs.Changes.{without_clock, put_clock}
use Rattle.ccsl_base.proofs.Picked.{members-set, members-clear, members-none, by_test, ticks_in-members, ticks_in-past, with_clock-members}
use Rattle.ccsl_base.proofs.Picked.{without_clock-members, members-ascending, members-below, members-same, members-empty, members-skip, members-cut}
use Rattle.ccsl_base.proofs.Picked.{length-split, length-moved, length-most}

pub is_set-zero : (x : ℕ) → is_set 0 x ≡ false
is_set-zero x = ap (λ b. nat_eq b 1) (bit_at-zero x)

bit_from : (b : ℕ) → b < 2 → nat_eq b 1 ≡ false → b ≡ 0
bit_from zero l e = refl
bit_from (suc zero) l e = cc
bit_from (suc (suc b)) l e = absurd (omega arith)

half-below : (m k : ℕ) → m < 2 ^ suc k → m / 2 < 2 ^ k
half-below m k l = div_below m 2 (2 ^ k) (omega arith) (subst (λ x. m < x) (pow-suc 2 k) l)

shr-suc : (n i : ℕ) → n / 2 ^ i / 2 ≡ n / 2 ^ suc i
shr-suc n i = div-div-eq-div-mul n (2 ^ i) 2 ∙ ap (λ x. n / x) (sym (pow-suc 2 i))

-- a word has as many members as bits that are set
length-word : (word first count : ℕ) → word / 2 ^ first < 2 ^ count → length (members_where (is_set word) first count) ≡ ones (word / 2 ^ first)
unfolding ones
length-word word first zero l =
    let none : word / 2 ^ first ≡ 0 = omega arith in
    ap length (members-none (is_set word) first) ∙ ap ones (sym none)
length-word word first (suc count) l =
    let rest : word / 2 ^ suc first < 2 ^ count = subst (λ x. x < 2 ^ count) (shr-suc word first) (half-below (word / 2 ^ first) count l) in
    let later : length (members_where (is_set word) (suc first) count) ≡ ones (word / 2 ^ first / 2) =
    length-word word (suc first) count rest ∙ ap ones (sym (shr-suc word first)) in
    let step : ones (word / 2 ^ first) ≡ bit_at word first + ones (word / 2 ^ first / 2) = ones_step (word / 2 ^ first) in
    by_test (is_set word) first _
    (λ e.
    let one : bit_at word first ≡ 1 = eqb-true (bit_at word first) 1 e in
    rw (members-set (is_set word) first count e) (omega (arith, later, step, one)))
    (λ e.
    let none : bit_at word first ≡ 0 = bit_from (bit_at word first) (bit_at-lt word first) e in
    rw (members-clear (is_set word) first count e) (omega (arith, later, step, none)))

-- the first word has the first 64 bits
bit_of-here : (word : ℕ) (words : List ℕ) (x : ℕ) → x < 64 → bit_of (word ∷ words) x ≡ is_set word x
bit_of-here word words x l =
    let place : x / 64 ≡ 0 = omega arith in let bit : x % 64 ≡ x = omega arith in
    rw (place, bit) refl

same-place : (x c : ℕ) → x / 64 ≡ c / 64 → x % 64 ≡ c % 64 → x ≡ c
same-place x c p q = omega (arith, p, q)

-- and the others have those behind them
bit_of-later : (word : ℕ) (words : List ℕ) (x : ℕ) → bit_of (word ∷ words) (64 + x) ≡ bit_of words x
bit_of-later word words x =
    let place : (64 + x) / 64 ≡ suc (x / 64) = omega arith in let bit : (64 + x) % 64 ≡ x % 64 = omega arith in
    rw (place, bit) refl

pub ones-size : (word : ℕ) → word < 2 ^ 64 → ones word ≡ size_of_word word
ones-size word l = ap ones (sym (div-one word)) ∙ sym (length-word word 0 64 (subst (λ n. n < 2 ^ 64) (sym (div-one word)) l))

size-most : (word : ℕ) → size_of_word word ≤ 64
size-most word = length-most (is_set word) 0 64

-- the members are as many as those of all words
pub length-members : (words : List ℕ) → length (members_of words) ≡ sum_by size_of_word words
length-members [] = ap length (members-none (bit_of []) 0)
length-members (word ∷ words) =
    let all : ℕ → Bool = bit_of (word ∷ words) in
    let size : 64 * length (word ∷ words) ≡ 64 + 64 * length words = omega arith in
    let whole : length (members_of (word ∷ words)) ≡ length (members_where all 0 (64 + 64 * length words)) = ap (λ n. length (members_where all 0 n)) size in
    let parts : length (members_where all 0 (64 + 64 * length words)) ≡ length (members_where all 0 64) + length (members_where all 64 (64 * length words)) =
    length-split all 0 64 (64 * length words) in
    let front : length (members_where all 0 64) ≡ size_of_word word =
    ap length (members-same all (is_set word) 0 64 (λ x l m. sym (bit_of-here word words x (omega arith)))) in
    let behind : length (members_where all 64 (64 * length words)) ≡ length (members_of words) =
    length-moved all (bit_of words) 64 0 (64 * length words) (bit_of-later word words) in
    let others : length (members_of words) ≡ sum_by size_of_word words = length-members words in
    let sizes : sum_by size_of_word (word ∷ words) ≡ size_of_word word + sum_by size_of_word words = sum_by-cons size_of_word word words in
    omega (arith, whole, parts, front, behind, others, sizes)

pub sizes-most : (words : List ℕ) → sum_by size_of_word words ≤ 64 * length words
sizes-most [] = omega arith
sizes-most (word ∷ words) =
    let here : size_of_word word ≤ 64 = size-most word in
    let others : sum_by size_of_word words ≤ 64 * length words = sizes-most words in
    let sizes : sum_by size_of_word (word ∷ words) ≡ size_of_word word + sum_by size_of_word words = sum_by-cons size_of_word word words in
    omega (arith, here, others, sizes)

pub sizes-next : (words : List ℕ) (i : ℕ) → i < length words →
    sum_by size_of_word (take (i + 1) words) ≡ sum_by size_of_word (take i words) + size_of_word (get_or words i 0)
sizes-next words i l = ap (sum_by size_of_word) (take_more words i 0 l) ∙ sum_by_push size_of_word (take i words) (get_or words i 0)

-- words that are 0 from a place on have no bit there
pub clear-from : (place : ℕ) (words : List ℕ) → EmptyFrom place words → (x : ℕ) → 64 * place ≤ x → bit_of words x ≡ false
clear-from place words empty x l =
    let zero_word : get_or words (x / 64) 0 ≡ 0 = empty (x / 64) (omega arith) in
    ap (λ w. is_set w (x % 64)) zero_word ∙ is_set-zero (x % 64)

-- past the last word no bit is set
pub clear-past : (words : List ℕ) (x : ℕ) → 64 * length words ≤ x → bit_of words x ≡ false
clear-past words x l = clear-from (length words) words (λ i m. get_or_past words i 0 m) x l

-- the words in use have all members
pub members-used : (used : ℕ) (words : List ℕ) → used ≤ length words → EmptyFrom used words → members_of (take used words) ≡ members_of words
members-used used words l empty =
    let size : length (take used words) ≡ used = length-take-le used words l in
    let whole : 64 * length words ≡ 64 * used + 64 * (length words - used) = omega (arith, l) in
    ap (λ n. members_where (bit_of (take used words)) 0 (64 * n)) size
    ∙ members-same (bit_of (take used words)) (bit_of words) 0 (64 * used)
    (λ x m n. ap (λ w. is_set w (x % 64)) (sym (get_or-take used words (x / 64) 0 (omega arith))))
    ∙ sym (ap (members_where (bit_of words) 0) whole ∙ members-cut (bit_of words) 0 (64 * used) (64 * (length words - used))
    (λ x m. clear-from used words empty x (omega (arith, m))))

-- one bit of one word is changed
pub bit_of-changed : (words : List ℕ) (c word : ℕ) (b : Bool) → c / 64 < length words → is_set word (c % 64) ≡ b →
    ((y : ℕ) → y < 64 → y ≢ c % 64 → is_set word y ≡ is_set (get_or words (c / 64) 0) y) →
    (bit_of (slice_set words (c / 64) word) c ≡ b) × ((x : ℕ) → x ≢ c → bit_of (slice_set words (c / 64) word) x ≡ bit_of words x)
bit_of-changed words c word b l here others = (
  ap (λ w. is_set w (c % 64)) (get_or-set_same words (c / 64) word 0 l) ∙ here,
  (λ x other.
      ⊎_elim
      (λ same.
      let apart : x % 64 ≢ c % 64 = (λ q. other (same-place x c same q)) in
      ap (λ i. is_set (get_or (slice_set words (c / 64) word) i 0) (x % 64)) same
      ∙ ap (λ w. is_set w (x % 64)) (get_or-set_same words (c / 64) word 0 l)
      ∙ others (x % 64) (omega arith) apart
      ∙ ap (λ i. is_set (get_or words i 0) (x % 64)) (sym same))
      (λ apart. ap (λ w. is_set w (x % 64)) (get_or-set_other words (c / 64) (x / 64) word 0 apart))
      (cases_eq (x / 64) (c / 64))),
)

-- ---- a set that is kept in words

zeros-empty : (n : ℕ) → EmptyFrom 0 (replicate n 0)
zeros-empty zero i l = get_or_past [] i 0 l
zeros-empty (suc n) zero l = refl
zeros-empty (suc n) (suc i) l = zeros-empty n i (omega arith)

-- words that are 0 have no members
pub members-zero : (n : ℕ) → members_of (replicate n 0) ≡ []
members-zero n = members-empty (bit_of (replicate n 0)) 0 (64 * length (replicate n 0)) (λ x l m. clear-from 0 (replicate n 0) (zeros-empty n) x (omega arith))

pub ticks_in-words : (words : List ℕ) (x : ℕ) → ticks_in x (members_of words) ≡ bit_of words x
ticks_in-words words x =
    ⊎_elim
    (λ l. ticks_in-members (bit_of words) 0 (64 * length words) x (omega arith) (omega (arith, l)))
    (λ l. ticks_in-past (bit_of words) 0 (64 * length words) x (omega (arith, l)) ∙ sym (clear-past words x l))
    (cases_lt x (64 * length words))

pub words-ascending : (words : List ℕ) → is_ascending (members_of words) ≡ true
words-ascending words = members-ascending (bit_of words) 0 (64 * length words)

pub words-below : (words : List ℕ) → length words ≡ 16 → are_below 1024 (members_of words) ≡ true
words-below words size = members-below (bit_of words) 0 (64 * length words) 1024 (omega (arith, size))

resized : (words : List ℕ) (i word : ℕ) → members_of (slice_set words i word) ≡ members_where (bit_of (slice_set words i word)) 0 (64 * length words)
resized words i word = ap (λ n. members_where (bit_of (slice_set words i word)) 0 (64 * n)) (length-set words i word)

-- a bit more is a member more
pub words-with : (words : List ℕ) (c word : ℕ) → c / 64 < length words → is_set word (c % 64) ≡ true →
    ((y : ℕ) → y < 64 → y ≢ c % 64 → is_set word y ≡ is_set (get_or words (c / 64) 0) y)
    → with_clock c (members_of words) ≡ members_of (slice_set words (c / 64) word)
words-with words c word l here others =
    let h = bit_of-changed words c word true l here others in
    with_clock-members (bit_of words) (bit_of (slice_set words (c / 64) word)) 0 (64 * length words) c (omega arith) (omega arith) h.0 h.1
    ∙ sym (resized words (c / 64) word)

-- a bit less is a member less
pub words-without : (words : List ℕ) (c word : ℕ) → c / 64 < length words → is_set word (c % 64) ≡ false →
    ((y : ℕ) → y < 64 → y ≢ c % 64 → is_set word y ≡ is_set (get_or words (c / 64) 0) y)
    → without_clock c (members_of words) ≡ members_of (slice_set words (c / 64) word)
words-without words c word l here others =
    let h = bit_of-changed words c word false l here others in
    without_clock-members (bit_of words) (bit_of (slice_set words (c / 64) word)) 0 (64 * length words) c h.0 (λ x m n. h.1 x)
    ∙ sym (resized words (c / 64) word)

-- a clock past the words in use is no member
pub words-without-absent : (used : ℕ) (words : List ℕ) (c : ℕ) → EmptyFrom used words → used ≤ c / 64 → without_clock c (members_of words) ≡ members_of words
words-without-absent used words c empty l =
    without_clock-members (bit_of words) (bit_of words) 0 (64 * length words) c (clear-from used words empty c (omega arith)) (λ x m n o. refl)

bit-or : (a b : ℕ) → a < 2 → b < 2 → nat_eq (max a b) 1 ≡ (nat_eq a 1 || nat_eq b 1)
bit-or zero zero l m = refl
bit-or zero (suc zero) l m = refl
bit-or (suc zero) zero l m = refl
bit-or (suc zero) (suc zero) l m = refl
bit-or (suc (suc a)) b l m = absurd (omega arith)
bit-or zero (suc (suc b)) l m = absurd (omega arith)
bit-or (suc zero) (suc (suc b)) l m = absurd (omega arith)

pub is_set-or : (a b i : ℕ) → is_set (bit_or a b) i ≡ (is_set a i || is_set b i)
is_set-or a b i = ap (λ n. nat_eq n 1) (bit_at_or a b i) ∙ bit-or (bit_at a i) (bit_at b i) (bit_at-lt a i) (bit_at-lt b i)

bit-without : (a b : ℕ) → a < 2 → b < 2 → nat_eq (min a (1 - b)) 1 ≡ (nat_eq a 1 && not (nat_eq b 1))
bit-without zero zero l m = refl
bit-without zero (suc zero) l m = refl
bit-without (suc zero) zero l m = refl
bit-without (suc zero) (suc zero) l m = refl
bit-without (suc (suc a)) b l m = absurd (omega arith)
bit-without zero (suc (suc b)) l m = absurd (omega arith)
bit-without (suc zero) (suc (suc b)) l m = absurd (omega arith)

pub is_set-without : (a b i : ℕ) → b < 2 ^ 64 → i < 64 → is_set (bit_and a (bit_not w64 b)) i ≡ (is_set a i && not (is_set b i))
is_set-without a b i fits inside =
    ap (λ n. nat_eq n 1) (bit_at_and a (bit_not w64 b) i ∙ ap (min (bit_at a i)) (bit_at_not w64 b i fits inside))
    ∙ bit-without (bit_at a i) (bit_at b i) (bit_at-lt a i) (bit_at-lt b i)

-- a bit more or less is a member more or less
pub words-put : (words : List ℕ) (c word : ℕ) (one : Bool) → c / 64 < length words → is_set word (c % 64) ≡ one →
    ((y : ℕ) → y < 64 → y ≢ c % 64 → is_set word y ≡ is_set (get_or words (c / 64) 0) y)
    → put_clock c one (members_of words) ≡ members_of (slice_set words (c / 64) word)
words-put words c word true l here others = words-with words c word l here others
words-put words c word false l here others = words-without words c word l here others

-- a word with a bit cleared, and then put to a value
shifted-none : (place : ℕ) → 0 * 2 ^ place % 2 ^ 64 ≡ 0
shifted-none place = ap (λ n. n % 2 ^ 64) (zero-mul (2 ^ place))

pub bit-put_same : (word place : ℕ) (one : Bool) → place < 64
    → is_set (bit_or (bit_and word (bit_not w64 (1 * 2 ^ place % 2 ^ 64))) (bool_byte one * 2 ^ place % 2 ^ 64)) place ≡ one
bit-put_same word place true l = ap (λ b. nat_eq b 1) (bit_at_set_same w64 _ place l)
bit-put_same word place false l =
    is_set-or (bit_and word (bit_not w64 (1 * 2 ^ place % 2 ^ 64))) (0 * 2 ^ place % 2 ^ 64) place
    ∙ ap₂ (λ a b. a || b) (ap (λ b. nat_eq b 1) (bit_at_clear_same w64 word place l)) (ap (λ w. is_set w place) (shifted-none place) ∙ is_set-zero place)

pub bit-put_other : (word place : ℕ) (one : Bool) → place < 64 → (i : ℕ) → i < 64 → i ≢ place →
    is_set (bit_or (bit_and word (bit_not w64 (1 * 2 ^ place % 2 ^ 64))) (bool_byte one * 2 ^ place % 2 ^ 64)) i ≡ is_set word i
bit-put_other word place true l i m n =
    ap (λ b. nat_eq b 1) (bit_at_set_other w64 _ place l i n ∙ bit_at_clear_other w64 word place l i m n)
bit-put_other word place false l i m n =
    is_set-or (bit_and word (bit_not w64 (1 * 2 ^ place % 2 ^ 64))) (0 * 2 ^ place % 2 ^ 64) i
    ∙ ap₂ (λ a b. a || b) (ap (λ b. nat_eq b 1) (bit_at_clear_other w64 word place l i m n)) (ap (λ w. is_set w i) (shifted-none place) ∙ is_set-zero i)
    ∙ or-false (is_set word i)

-- ---- two sets

-- the words before a place are those of two sets, bit by bit
pub record Joined (op : Bool → Bool → Bool) (i : ℕ) (words old other : List ℕ) : Type 0 where
  pub size : length words ≡ length old
  pub done : (j k : ℕ) → j < i → k < 64 → is_set (get_or words j 0) k ≡ op (is_set (get_or old j 0) k) (is_set (get_or other j 0) k)
  pub later : (j : ℕ) → i ≤ j → get_or words j 0 ≡ get_or old j 0

pub joined-next : (op : Bool → Bool → Bool) (i : ℕ) (words old other : List ℕ) (word : ℕ) → Joined op i words old other → i < length words →
    ((k : ℕ) → k < 64 → is_set word k ≡ op (is_set (get_or words i 0) k) (is_set (get_or other i 0) k)) → Joined op (i + 1) (slice_set words i word) old other
joined-next op i words old other word joined l bits = record {
  size = length-set words i word ∙ joined.size;
  done = λ j k m n.
      ⊎_elim
      (λ e.
      ap (λ (w : ℕ). is_set (get_or (slice_set words i word) w 0) k) e
      ∙ ap (λ (w : ℕ). is_set w k) (get_or-set_same words i word 0 l)
      ∙ bits k n
      ∙ ap (λ (w : ℕ). op (is_set w k) (is_set (get_or other i 0) k)) (joined.later i (omega arith))
      ∙ ap (λ (w : ℕ). op (is_set (get_or old w 0) k) (is_set (get_or other w 0) k)) (sym e))
      (λ e. ap (λ (w : ℕ). is_set w k) (get_or-set_other words i j word 0 e) ∙ joined.done j k (omega (arith, m, e)) n)
      (cases_eq j i);
  later = λ j m. get_or-set_other words i j word 0 (λ q. omega (arith, m, q)) ∙ joined.later j (omega (arith, m));
}

pub joined-none : (op : Bool → Bool → Bool) (old other : List ℕ) → Joined op 0 old old other
joined-none op old other = record { size = refl; done = λ j k m n. let z : ⊥ = omega (arith, m) in absurd z; later = λ j m. refl }

pub joined-first : (op : Bool → Bool → Bool) (old other : List ℕ) (word : ℕ) → 0 < length old →
    ((k : ℕ) → k < 64 → is_set word k ≡ op (is_set (get_or old 0 0) k) (is_set (get_or other 0 0) k)) → Joined op 1 (slice_set old 0 word) old other
joined-first op old other word = joined-next op 0 old old other word (joined-none op old other)

-- to join the same words once more changes nothing
or-again : (a b : Bool) → ((a || b) || b) ≡ (a || b)
or-again true b = refl
or-again false true = refl
or-again false false = refl

pub joined-begun : (mid old other : List ℕ) → Joined (λ a b. a || b) 1 mid old other → Joined (λ a b. a || b) 1 mid mid other
joined-begun mid old other first = record {
  size = refl;
  done = λ j k m n.
      first.done j k m n
      ∙ sym (or-again (is_set (get_or old j 0) k) (is_set (get_or other j 0) k))
      ∙ ap (λ a. a || is_set (get_or other j 0) k) (sym (first.done j k m n));
  later = λ j m. refl;
}

pub joined-again : (i : ℕ) (words mid old other : List ℕ) → Joined (λ a b. a || b) 1 mid old other → Joined (λ a b. a || b) i words mid other → 1 ≤ i
    → Joined (λ a b. a || b) i words old other
joined-again i words mid old other first joined begun = record {
  size = joined.size ∙ first.size;
  done = λ j k m n.
      joined.done j k m n
      ∙ ⊎_elim
      (λ l. ap (λ a. a || is_set (get_or other j 0) k) (first.done j k l n) ∙ or-again (is_set (get_or old j 0) k) (is_set (get_or other j 0) k))
      (λ l. ap (λ w. is_set w k || is_set (get_or other j 0) k) (first.later j l))
      (cases_lt j 1);
  later = λ j m. joined.later j m ∙ first.later j (omega (arith, m, begun));
}

pub joined-all : (op : Bool → Bool → Bool) (i : ℕ) (words old other : List ℕ) → Joined op i words old other →
    ((j k : ℕ) → i ≤ j → op (is_set (get_or old j 0) k) (is_set (get_or other j 0) k) ≡ is_set (get_or old j 0) k) →
    (x : ℕ) → ticks_in x (members_of words) ≡ op (ticks_in x (members_of old)) (ticks_in x (members_of other))
joined-all op i words old other joined past x =
    ticks_in-words words x
    ∙ ⊎_elim
    (λ l. joined.done (x / 64) (x % 64) l (omega arith))
    (λ l. ap (λ (w : ℕ). is_set w (x % 64)) (joined.later (x / 64) l) ∙ sym (past (x / 64) (x % 64) l))
    (cases_lt (x / 64) i)
    ∙ ap₂ op (sym (ticks_in-words old x)) (sym (ticks_in-words other x))

-- a word that is 0 gives and takes no member
pub gives-none : (a : Bool) (word k : ℕ) → word ≡ 0 → (a || is_set word k) ≡ a
gives-none true word k z = refl
gives-none false word k z = ap (λ w. is_set w k) z ∙ is_set-zero k

pub takes-none : (a : Bool) (word k : ℕ) → word ≡ 0 → (a && not (is_set word k)) ≡ a
takes-none true word k z = ap (λ w. not (is_set w k)) z ∙ ap not (is_set-zero k)
takes-none false word k z = refl

pub has-none : (b : Bool) (word k : ℕ) → word ≡ 0 → (is_set word k && b) ≡ is_set word k
has-none b word k z =
    let none : is_set word k ≡ false = ap (λ w. is_set w k) z ∙ is_set-zero k in
    ap (λ a. a && b) none ∙ sym none

-- ---- a walk

-- it begins with all members
pub left-all : (word : ℕ) (words : List ℕ) → members_left word 0 words ≡ members_of (word ∷ words)
left-all word words = members-same (λ x. bit_of (word ∷ words) (x - 0)) (bit_of (word ∷ words)) 0 (64 * suc (length words))
    (λ x l m. ap (bit_of (word ∷ words)) (omega arith))

zero-here : (words : List ℕ) (first x : ℕ) → first ≤ x → x < first + 64 → bit_of (0 ∷ words) (x - first) ≡ false
zero-here words first x l m = bit_of-here 0 words (x - first) (omega arith) ∙ is_set-zero (x - first)

-- it is over behind the last word
left-none : (first : ℕ) → members_left 0 first [] ≡ []
left-none first = members-empty (λ x. bit_of (0 ∷ []) (x - first)) first 64 (zero-here [] first)

pub left-over : (word first : ℕ) (words : List ℕ) → word ≡ 0 → length words ≡ 0 → members_left word first words ≡ []
left-over word first [] z l = ap (λ w. members_left w first []) z ∙ left-none first
left-over word first (w ∷ words) z l = absurd (omega (arith, l))

pub none-members : (words : List ℕ) → length words ≡ 0 → members_left 0 0 words ≡ members_of words
none-members [] l = left-none 0 ∙ sym (members-none (bit_of []) 0)
none-members (word ∷ words) l = absurd (omega (arith, l))

-- a word that is 0 is passed over
pub left-skip : (word first : ℕ) (words : List ℕ) → members_left 0 first (word ∷ words) ≡ members_left word (first + 64) words
left-skip word first words =
    let size : 64 * suc (suc (length words)) ≡ 64 + 64 * suc (length words) = omega arith in
    ap (members_where (λ x. bit_of (0 ∷ (word ∷ words)) (x - first)) first) size
    ∙ members-skip (λ x. bit_of (0 ∷ (word ∷ words)) (x - first)) first 64 (64 * suc (length words)) (zero-here (word ∷ words) first)
    ∙ members-same (λ x. bit_of (0 ∷ (word ∷ words)) (x - first)) (λ x. bit_of (word ∷ words) (x - (first + 64))) (first + 64) (64 * suc (length words))
    (λ x l m.
    let place : x - first ≡ 64 + (x - (first + 64)) = omega arith in
    sym (ap (bit_of (0 ∷ (word ∷ words))) place ∙ bit_of-later 0 (word ∷ words) (x - (first + 64))))

-- the lowest bit of a word is the next member, and goes
pub left-next : (word without first place : ℕ) (words : List ℕ) → place < 64 → is_set word place ≡ true → ((i : ℕ) → i < place → is_set word i ≡ false) →
    is_set without place ≡ false → ((i : ℕ) → i < 64 → i ≢ place → is_set without i ≡ is_set word i) →
    members_left word first words ≡ (first + place) ∷ members_left without first words
left-next word without first place words inside set lower gone same =
    let old : ℕ → Bool = λ x. bit_of (word ∷ words) (x - first) in
    let new : ℕ → Bool = λ x. bit_of (without ∷ words) (x - first) in
    let behind : ℕ = 63 - place + 64 * length words in
    let size : 64 * suc (length words) ≡ place + suc behind = omega arith in
    let size' : 64 * suc (length words) ≡ suc place + behind = omega arith in
    let at : first + place - first ≡ place = omega arith in
    ap (members_where old first) size
    ∙ members-skip old first place (suc behind) (λ x l m. bit_of-here word words (x - first) (omega arith) ∙ lower (x - first) (omega arith))
    ∙ members-set old (first + place) behind (ap (bit_of (word ∷ words)) at ∙ bit_of-here word words place inside ∙ set)
    ∙ ap (λ xs. (first + place) ∷ xs)
    (members-same old new (suc (first + place)) behind
    (λ x l m.
    ⊎_elim
    (λ h. bit_of-here without words (x - first) h ∙ same (x - first) h (λ q. omega arith) ∙ sym (bit_of-here word words (x - first) h))
    (λ h.
    let place : x - first ≡ 64 + (x - first - 64) = omega arith in
    ap (bit_of (without ∷ words)) place ∙ bit_of-later without words (x - first - 64)
    ∙ sym (ap (bit_of (word ∷ words)) place ∙ bit_of-later word words (x - first - 64)))
    (cases_lt (x - first) 64))
    ∙ ap (λ n. members_where new n behind) (sym (add-suc first place))
    ∙ sym (ap (members_where new first) size' ∙ members-skip new first (suc place) behind
    (λ x l m.
    ⊎_elim
    (λ h. ap (bit_of (without ∷ words)) h ∙ bit_of-here without words place inside ∙ gone)
    (λ h. bit_of-here without words (x - first) (omega arith) ∙ same (x - first) (omega arith) h ∙ lower (x - first) (omega arith))
    (cases_eq (x - first) place))))
