-- Words of visible bytes with blanks between them are the tokens of their line.
use Rattle.std.proofs.Common.{◌≡◌, ℕ, zero, suc, ◌+◌, ◌-◌, ◌<◌, ◌≤◌, List, [], ◌∷◌, ◌++◌, length, take, filter, cond, Bool, true, false, not, ◌&&◌, ◌||◌}
use Rattle.std.proofs.Common.{nat_eq, nat_le, refl, ap, ap₂, ◌∙◌, arith, append-nil, get_or}
use Rattle.std.specs.List.{All, list_all, slice_split}
use Rattle.std.specs.Str.Lines.{strip_carriage_return}
use Rattle.std.proofs.lemmas.Bool.{ne_eqb, leb-true, and_parts, not-true}
use Rattle.std.proofs.lemmas.List.Splits.{slice_split_none, slice_split_at}
use Rattle.ccsl_base.specs.Name.{is_visible}
use Rattle.ccsl_refute.specs.Text.{placed, is_blank, is_line_feed, has_bytes, tokens}
use Rattle.ccsl_refute.specs.Writing.{spaced}

-- a word: not empty, and of visible bytes
abbrev pub is_word : List ℕ → Bool
is_word [] = false
is_word (b ∷ bs) = list_all is_visible (b ∷ bs)

abbrev pub are_words : List (List ℕ) → Bool
are_words ws = list_all is_word ws

visible-low : (b : ℕ) → is_visible b ≡ true → 33 ≤ b
visible-low b e = leb-true 33 b ((and_parts (nat_le 33 b) (nat_le b 126) e).0)

pub no-blank : (b : ℕ) → is_visible b ≡ true → is_blank b ≡ false
no-blank b e =
    let low = visible-low b e in
    ap₂ (λ s t. s || t) (ne_eqb b 32 (λ q. omega arith)) (ne_eqb b 9 (λ q. omega arith))

pub no-line_feed : (b : ℕ) → is_visible b ≡ true → is_line_feed b ≡ false
no-line_feed b e = let low = visible-low b e in ne_eqb b 10 (λ q. omega arith)

-- what holds of visible bytes holds of all bytes of a word
pub all-visible : (p : ℕ → Bool) (w : List ℕ) → ((b : ℕ) → is_visible b ≡ true → p b ≡ false) → list_all is_visible w ≡ true → All (λ b. p b ≡ false) w
all-visible p [] h e k d l = absurd (omega arith)
all-visible p (b ∷ w) h e zero d l = h b ((and_parts (is_visible b) (list_all is_visible w) e).0)
all-visible p (b ∷ w) h e (suc k) d l = all-visible p w h ((and_parts (is_visible b) (list_all is_visible w) e).1) k d (omega arith)

word-visible : (w : List ℕ) → is_word w ≡ true → list_all is_visible w ≡ true
word-visible [] e = refl
word-visible (b ∷ w) e = e

split-spaced : (w : List ℕ) (ws : List (List ℕ)) → is_word w ≡ true → are_words ws ≡ true → slice_split is_blank (w ++ spaced ws) ≡ w ∷ ws
split-spaced w [] e f =
    ap (slice_split is_blank) (append-nil w) ∙ slice_split_none is_blank w (all-visible is_blank w no-blank (word-visible w e))
split-spaced w (v ∷ vs) e f =
    slice_split_at is_blank w 32 (v ++ spaced vs) (all-visible is_blank w no-blank (word-visible w e)) refl
    ∙ ap (λ ws. w ∷ ws) (split-spaced v vs ((and_parts (is_word v) (are_words vs) f).0) ((and_parts (is_word v) (are_words vs) f).1))

placed-kept : (at : ℕ) (ws : List (List ℕ)) → are_words ws ≡ true → filter has_bytes (placed at ws) ≡ placed at ws
placed-kept at [] e = refl
placed-kept at ([] ∷ ws) e = absurd (cc)
placed-kept at ((b ∷ w) ∷ ws) e =
    ap (λ ps. (at, b ∷ w) ∷ ps) (placed-kept (suc (at + length (b ∷ w))) ws ((and_parts (is_word (b ∷ w)) (are_words ws) e).1))

-- the tokens of a line of words
pub tokens-spaced : (at : ℕ) (w : List ℕ) (ws : List (List ℕ)) → is_word w ≡ true → are_words ws ≡ true →
    tokens at (w ++ spaced ws) ≡ (at, w) ∷ placed (suc (at + length w)) ws
tokens-spaced at w ws e f =
    ap (λ parts. filter has_bytes (placed at parts)) (split-spaced w ws e f)
    ∙ placed-kept at (w ∷ ws) (ap₂ (λ s t. s && t) e f)

inside-line : (p : ℕ → Bool) (w : List ℕ) (ws : List (List ℕ)) → ((b : ℕ) → is_visible b ≡ true → p b ≡ false) → p 32 ≡ false → list_all is_visible w ≡ true
    → are_words ws ≡ true →
    list_all (λ b. not (p b)) (w ++ spaced ws) ≡ true
inside-line p [] [] h s e f = refl
inside-line p [] (v ∷ vs) h s e f =
    ap (λ t. not t && list_all (λ b. not (p b)) (v ++ spaced vs)) s
    ∙ inside-line p v vs h s (word-visible v ((and_parts (is_word v) (are_words vs) f).0)) ((and_parts (is_word v) (are_words vs) f).1)
inside-line p (b ∷ w) ws h s e f =
    ap (λ t. not t && list_all (λ b. not (p b)) (w ++ spaced ws)) (h b ((and_parts (is_visible b) (list_all is_visible w) e).0))
    ∙ inside-line p w ws h s ((and_parts (is_visible b) (list_all is_visible w) e).1) f

each : (p : ℕ → Bool) (w : List ℕ) → list_all (λ b. not (p b)) w ≡ true → All (λ b. p b ≡ false) w
each p [] e k d l = absurd (omega arith)
each p (b ∷ w) e zero d l = not-true (p b) ((and_parts (not (p b)) (list_all (λ c. not (p c)) w) e).0)
each p (b ∷ w) e (suc k) d l = each p w ((and_parts (not (p b)) (list_all (λ c. not (p c)) w) e).1) k d (omega arith)

-- no byte of a line of words ends it
pub line-clear : (w : List ℕ) (ws : List (List ℕ)) → is_word w ≡ true → are_words ws ≡ true → All (λ b. is_line_feed b ≡ false) (w ++ spaced ws)
line-clear w ws e f = each is_line_feed (w ++ spaced ws) (inside-line is_line_feed w ws no-line_feed refl (word-visible w e) f)

no-return : (b : ℕ) → is_visible b ≡ true → nat_eq b 13 ≡ false
no-return b e = let low = visible-low b e in ne_eqb b 13 (λ q. omega arith)

some-bytes : (w : List ℕ) (ws : List (List ℕ)) → is_word w ≡ true → 0 < length (w ++ spaced ws)
some-bytes [] ws e = absurd (cc)
some-bytes (b ∷ w) ws e = omega arith

-- and none is a carriage return
pub line-kept : (w : List ℕ) (ws : List (List ℕ)) → is_word w ≡ true → are_words ws ≡ true → strip_carriage_return (w ++ spaced ws) ≡ w ++ spaced ws
line-kept w ws e f =
    let line = w ++ spaced ws in
    let some : 0 < length line = some-bytes w ws e in
    let last : nat_eq (get_or line (length line - 1) 0) 13 ≡ false =
    each (λ b. nat_eq b 13) line (inside-line (λ b. nat_eq b 13) w ws no-return refl (word-visible w e) f) (length line - 1) 0 (omega arith) in
    ap (λ t. cond t (take (length line - 1) line) line) last
