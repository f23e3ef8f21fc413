-- Sets that are kept in words, and the members of the one that are not the other's.
use Rattle.std.proofs.Common.{◌≡◌, ◌≢◌, ℕ, ◌+◌, ◌*◌, ◌/◌, ◌%◌, ◌^◌, ◌<◌, ◌≤◌, List, [], length, get_or, slice_set, true, false, not, ◌&&◌, nat_eq, refl, sym}
use Rattle.std.proofs.Common.{ap, ap₂, ◌∙◌, ⊎_elim, subst, arith}
use Rattle.std.specs.Int.{w64}
use Rattle.std.proofs.lemmas.Bool.{cases_eq, cases_lt}
use Rattle.std.proofs.lemmas.List.{get_or-set_same, get_or-set_other, length-set}
use Rattle.std.proofs.lemmas.Nat.Bits.{bit_at-trailing_zeros}
use lib.Count.{count_trailing_zeros}
use Rattle.ccsl_base.specs.Bits.{is_set, bit_of, members_where, members_of, EmptyFrom}
use Rattle.ccsl_base.specs.Clocks.{ticks_in}
use Rattle.ccsl_base.specs.Changes.{difference}
use Rattle.ccsl_base.proofs.Picked.{members-same, members-empty, members-filter}
use Rattle.ccsl_base.proofs.Sets.{ticks_in-difference}
use Rattle.ccsl_base.proofs.Words.{is_set-zero, clear-from, ticks_in-words}

no-bit : (word k : ℕ) → word ≡ 0 → is_set word k ≡ false
no-bit word k z = ap (λ w. is_set w k) z ∙ is_set-zero k

-- the first words of a set are made anew, each as it should be
pub record Made (IsWord : ℕ → ℕ → Type 0) (i : ℕ) (words old : List ℕ) : Type 0 where
  pub size : length words ≡ length old
  pub done : (j : ℕ) → j < i → IsWord j (get_or words j 0)
  pub later : (j : ℕ) → i ≤ j → get_or words j 0 ≡ get_or old j 0

pub made-none : (IsWord : ℕ → ℕ → Type 0) (old : List ℕ) → Made IsWord 0 old old
made-none IsWord old = record { size = refl; done = λ j l. absurd (omega (arith, l)); later = λ j l. refl }

pub made-next : (IsWord : ℕ → ℕ → Type 0) (i word : ℕ) (words old : List ℕ) → Made IsWord i words old → i < length words → IsWord i word →
    Made IsWord (i + 1) (slice_set words i word) old
made-next IsWord i word words old made l is = record {
  size = length-set words i word ∙ made.size;
  done = λ j m.
      ⊎_elim
      (λ (e : j ≡ i). subst (λ k. IsWord k (get_or (slice_set words i word) k 0)) (sym e) (subst (IsWord i) (sym (get_or-set_same words i word 0 l)) is))
      (λ (e : j ≢ i). subst (IsWord j) (sym (get_or-set_other words i j word 0 e)) (made.done j (omega (arith, m, e))))
      (cases_eq j i);
  later = λ j m. get_or-set_other words i j word 0 (λ q. omega (arith, m, q)) ∙ made.later j (omega (arith, m));
}

-- all words are, where those that are left are so
pub made-all : (IsWord : ℕ → ℕ → Type 0) (i : ℕ) (words old : List ℕ) → Made IsWord i words old → ((j : ℕ) → i ≤ j → IsWord j (get_or old j 0)) →
    (j : ℕ) → IsWord j (get_or words j 0)
made-all IsWord i words old made past j =
    ⊎_elim
    (λ l. made.done j l)
    (λ l. subst (IsWord j) (sym (made.later j l)) (past j l))
    (cases_lt j i)

-- the first word is made before the others
made-first : (IsWord : ℕ → ℕ → Type 0) (word : ℕ) (old : List ℕ) → 0 < length old → IsWord 0 word → Made IsWord 1 (slice_set old 0 word) old
made-first IsWord word old l is = made-next IsWord 0 word old old (made-none IsWord old) l is

pub made-begun : (IsWord : ℕ → ℕ → Type 0) (word : ℕ) (old : List ℕ) → 0 < length old → IsWord 0 word
    → Made IsWord 1 (slice_set old 0 word) (slice_set old 0 word)
made-begun IsWord word old l is = record { size = refl; done = (made-first IsWord word old l is).done; later = λ j m. refl }

pub made-behind : (IsWord : ℕ → ℕ → Type 0) (i word : ℕ) (words old : List ℕ) → 0 < length old → IsWord 0 word → Made IsWord i words (slice_set old 0 word) →
    ((j : ℕ) → i ≤ j → IsWord j (get_or old j 0)) → (length words ≡ length old) × ((j : ℕ) → IsWord j (get_or words j 0))
made-behind IsWord i word words old l is made past =
    let first = made-first IsWord word old l is in (
      made.size ∙ length-set old 0 word,
      made-all IsWord i words (slice_set old 0 word) made
          (λ k m.
          ⊎_elim
          (λ n. first.done k n)
          (λ n. subst (IsWord k) (sym (first.later k n)) (past k m))
          (cases_lt k 1)),
    )

-- words are the same set where they are the same
pub words-same : (words other : List ℕ) → length words ≡ length other → ((j : ℕ) → get_or words j 0 ≡ get_or other j 0) → members_of words ≡ members_of other
words-same words other size same =
    ap (λ n. members_where (bit_of words) 0 (64 * n)) size
    ∙ members-same (bit_of words) (bit_of other) 0 (64 * length other) (λ x l m. ap (λ w. is_set w (x % 64)) (sym (same (x / 64))))

-- the members of the one set that are not the other's, by their bits
words-beyond : (words others : List ℕ) →
    difference (members_of words) (members_of others) ≡ members_where (λ x. bit_of words x && not (bit_of others x)) 0 (64 * length words)
words-beyond words others =
    members-filter (bit_of words) (λ x. not (ticks_in x (members_of others))) (λ x. bit_of words x && not (bit_of others x)) 0 (64 * length words)
    (λ x l m. ap (λ b. bit_of words x && not b) (sym (ticks_in-words others x)))

-- a word has the bits of one that are not another's
pub record IsBeyond (one other word : ℕ) : Type 0 where
  pub bits : (k : ℕ) → k < 64 → is_set word k ≡ (is_set one k && not (is_set other k))
  pub none : one ≡ 0 → word ≡ 0

pub zero-beyond : (one other word : ℕ) → one ≡ 0 → word ≡ 0 → IsBeyond one other word
zero-beyond one other word e f = record {
  bits = λ k l. no-bit word k f ∙ sym (ap (λ b. b && not (is_set other k)) (no-bit one k e));
  none = λ _. f;
}

pub words-difference : (words one other : List ℕ) → length words ≡ length one →
    ((j : ℕ) → IsBeyond (get_or one j 0) (get_or other j 0) (get_or words j 0)) → members_of words ≡ difference (members_of one) (members_of other)
words-difference words one other size made =
    ap (λ n. members_where (bit_of words) 0 (64 * n)) size
    ∙ members-same (bit_of words) (λ x. bit_of one x && not (bit_of other x)) 0 (64 * length one) (λ x l m. sym ((made (x / 64)).bits (x % 64) (omega arith)))
    ∙ sym (words-beyond one other)

-- the first words of a set have no bit that is not another's
pub record Within (i : ℕ) (words others : List ℕ) : Type 0 where
  pub are : (x : ℕ) → x < 64 * i → (bit_of words x && not (bit_of others x)) ≡ false

-- a set is another's part where no word in use has such a bit
pub within-all : (i used : ℕ) (words others : List ℕ) → Within i words others → used ≤ i → EmptyFrom used words
    → difference (members_of words) (members_of others) ≡ []
within-all i used words others within l empty =
    words-beyond words others
    ∙ members-empty (λ x. bit_of words x && not (bit_of others x)) 0 (64 * length words)
    (λ x m n.
    ⊎_elim
    (λ (m : x < 64 * i). within.are x m)
    (λ (m : 64 * i ≤ x). ap (λ b. b && not (bit_of others x)) (clear-from used words empty x (omega (arith, m, l))))
    (cases_lt x (64 * i)))

-- a word that is not 0 has a bit
some-bit : (word : ℕ) → word ≢ 0 → word < 2 ^ 64 → (k : ℕ) × (k < 64) × (is_set word k ≡ true)
some-bit word n fits =
    let h = bit_at-trailing_zeros w64 word (omega (arith, n)) fits in
    (count_trailing_zeros 64 word, h.0, ap (λ b. nat_eq b 1) h.1)

pub not-within : (i word : ℕ) (words others : List ℕ) → word ≢ 0 → word < 2 ^ 64 →
    ((k : ℕ) → k < 64 → is_set word k ≡ (is_set (get_or words i 0) k && not (is_set (get_or others i 0) k)))
    → difference (members_of words) (members_of others) ≡ [] → ⊥
not-within i word words others n fits bits none =
    let some = some-bit word n fits in
    let x : ℕ = 64 * i + some.0 in
    let place : x / 64 ≡ i = omega (arith, some.1) in
    let at : x % 64 ≡ some.0 = omega (arith, some.1) in
    let e : true ≡ false =
    sym some.2 ∙ bits some.0 some.1 ∙ ap₂ (λ j k. is_set (get_or words j 0) k && not (is_set (get_or others j 0) k)) (sym place) (sym at)
    ∙ ap₂ (λ a b. a && not b) (sym (ticks_in-words words x)) (sym (ticks_in-words others x))
    ∙ sym (ticks_in-difference (members_of words) (members_of others) x)
    ∙ ap (ticks_in x) none in
    absurd (cc)
