-- How a set of clocks is kept in words of 64 bits. No contract outside the crate speaks of it.
use Rattle.std.specs.Prelude.{◌≡◌, ◌≤◌, ◌-◌, ◌*◌, ◌/◌, ◌%◌, ℕ, zero, suc, List, [], ◌∷◌, Bool, nat_eq, if◌then◌else◌, length, get_or}
use Rattle.std.specs.Int.{bit_at}

abbrev pub is_set : ℕ → ℕ → Bool
is_set word x = nat_eq (bit_at word x) 1

-- bit x of words that stand one behind the other
abbrev pub bit_of : List ℕ → ℕ → Bool
bit_of words x = is_set (get_or words (x / 64) 0) (x % 64)

-- those of `count` clocks from `first` on that are in, in order
unfoldable pub members_where : (ℕ → Bool) → ℕ → ℕ → List ℕ
members_where is_in first zero = []
members_where is_in first (suc count) =
    if is_in first then first ∷ members_where is_in (suc first) count else members_where is_in (suc first) count

-- the number of bits of a word that are set
abbrev pub size_of_word : ℕ → ℕ
size_of_word word = length (members_where (is_set word) 0 64)

-- the clocks whose bit is set
abbrev pub members_of : List ℕ → List ℕ
members_of words = members_where (bit_of words) 0 (64 * length words)

-- the words from a place on are 0
abbrev pub EmptyFrom : ℕ → List ℕ → Type 0
EmptyFrom place words = (i : ℕ) → place ≤ i → get_or words i 0 ≡ 0

-- the clocks that a walk has before it: those of a word whose bits begin at `first`, and those of the words behind it
abbrev pub members_left : ℕ → ℕ → List ℕ → List ℕ
members_left word first words = members_where (λ x. bit_of (word ∷ words) (x - first)) first (64 * suc (length words))
