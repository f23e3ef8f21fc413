-- Reading a reserved word.
use Rattle.std.proofs.Common.{◌≡◌, ℕ, ◌+◌, ◌<◌, Bool, true, false, List, [], ◌∷◌, length, get_or, drop, Option, Some, None, refl, sym, ap, ◌∙◌, map}
use Rattle.std.specs.List.{find, list_any}
use Rattle.std.specs.Option.{is_some}
use Rattle.std.specs.Str.{bytes_eq}
use Rattle.std.proofs.lemmas.Slice.Eq.{bytes_eq-Decides}
use Rattle.std.proofs.lemmas.List.{drop_more}
use Rattle.ccsl_base.specs.declared.reserved.Reserved.{Reserved}
use Rattle.ccsl_base.specs.declared.reserved.Reserved.TheVariants as w
use Rattle.ccsl_base.specs.ReservedWords.{spelling, reserved, all_words}
use Rattle.ccsl_base.specs.KeptWords.{is_reserved, WordsReadBack}

-- whether a text spells a word
abbrev pub spells : List ℕ → Reserved → Bool
spells text word = bytes_eq text (spelling word)

pub found_at : (text : List ℕ) (i : ℕ) (d : Reserved) → i < length all_words → spells text (get_or all_words i d) ≡ true
    → find (spells text) (drop i all_words) ≡ Some (get_or all_words i d)
found_at text i d l h = ap (find (spells text)) (drop_more all_words i d l) ∙ rw h refl

pub passed_at : (text : List ℕ) (i : ℕ) (d : Reserved) → i < length all_words → spells text (get_or all_words i d) ≡ false
    → find (spells text) (drop i all_words) ≡ find (spells text) (drop (i + 1) all_words)
passed_at text i d l h = ap (find (spells text)) (drop_more all_words i d l) ∙ rw h refl

none_any : (text : List ℕ) (words : List Reserved) → find (spells text) words ≡ None → list_any (bytes_eq text) (map spelling words) ≡ false
none_any text [] h = refl
none_any text (word ∷ words) h = by_first (spells text word) refl (none_any text words)
  where
    by_first : (t : Bool) → spells text word ≡ t → (find (spells text) words ≡ None → list_any (bytes_eq text) (map spelling words) ≡ false)
        → list_any (bytes_eq text) (map spelling (word ∷ words)) ≡ false
    by_first true e k = absurd (let i : Some word ≡ None = sym (rw e refl) ∙ h in cc)
    by_first false e k = rw e (k (sym (rw e refl) ∙ h))

-- a text that spells no word is none of the reserved words
pub not_reserved : (text : List ℕ) → reserved text ≡ None → is_reserved text ≡ false
unfolding reserved
not_reserved text h = none_any text all_words h

found_spells : (text : List ℕ) (words : List Reserved) (spelt : Reserved) → find (spells text) words ≡ Some spelt → text ≡ spelling spelt
found_spells text [] spelt h = absurd cc
found_spells text (v ∷ words) spelt h = by_first (spells text v) refl (found_spells text words spelt)
  where
    by_first : (t : Bool) → spells text v ≡ t → (find (spells text) words ≡ Some spelt → text ≡ spelling spelt) → text ≡ spelling spelt
    by_first true e k = let same : v ≡ spelt =
        (let i : Some v ≡ Some spelt = sym (rw e refl) ∙ h in cc) in (bytes_eq-Decides text (spelling v)).0 e ∙ ap spelling same
    by_first false e k = k (sym (rw e refl) ∙ h)

-- a text that is read as a word is its spelling
pub reserved_spells : (text : List ℕ) (word : Reserved) → reserved text ≡ Some word → text ≡ spelling word
unfolding reserved
reserved_spells text word h = found_spells text all_words word h

pub words_read_back : WordsReadBack
unfolding reserved
words_read_back w.Ccsl = refl
words_read_back w.Relation = refl
words_read_back w.Expression = refl
words_read_back w.And = refl
words_read_back w.System = refl
words_read_back w.Clock = refl
words_read_back w.Number = refl
words_read_back w.Word = refl
words_read_back w.Define = refl
words_read_back w.If = refl
words_read_back w.Use = refl
words_read_back w.Else = refl
words_read_back w.Never = refl
words_read_back w.Union = refl
words_read_back w.Inter = refl
words_read_back w.Minus = refl
words_read_back w.Inf = refl
words_read_back w.Sup = refl
words_read_back w.Delay = refl
words_read_back w.Await = refl
words_read_back w.Filter = refl
words_read_back w.Upto = refl
words_read_back w.Sampled = refl
words_read_back w.Weakly = refl
words_read_back w.On = refl
words_read_back w.Delayed = refl
words_read_back w.Then = refl
words_read_back w.Tail = refl
words_read_back w.Head = refl
words_read_back w.Ended = refl
words_read_back w.Subclock = refl
words_read_back w.Coincides = refl
words_read_back w.Excludes = refl
words_read_back w.Precedes = refl
words_read_back w.Within = refl
words_read_back w.From = refl

spelled_any : (text : List ℕ) (word : Reserved) (words : List Reserved) → find (spells text) words ≡ Some word
    → list_any (bytes_eq text) (map spelling words) ≡ true
spelled_any text word [] h = absurd cc
spelled_any text word (v ∷ words) h = by_first (spells text v) refl (spelled_any text word words)
  where
    by_first : (t : Bool) → spells text v ≡ t → (find (spells text) words ≡ Some word → list_any (bytes_eq text) (map spelling words) ≡ true)
        → list_any (bytes_eq text) (map spelling (v ∷ words)) ≡ true
    by_first true e k = rw e refl
    by_first false e k = rw e (k (sym (rw e refl) ∙ h))

-- a text that is read as a word is one of the reserved words
pub is_word_reserved : (text : List ℕ) (word : Reserved) → reserved text ≡ Some word → is_reserved text ≡ true
unfolding reserved
is_word_reserved text word h = spelled_any text word all_words h

pub some_reserved : (text : List ℕ) (r : Option Reserved) → r ≡ reserved text → is_some r ≡ is_reserved text
some_reserved text (Some word) h = sym (is_word_reserved text word (sym h))
some_reserved text None h = sym (not_reserved text (sym h))
