-- The tokens of a text of lines, each of words with a blank between them.
use Rattle.std.proofs.Common.{◌≡◌, ℕ, ◌+◌, ◌≤◌, List, [], ◌∷◌, ◌++◌, length, map, Bool, true, false, ◌&&◌, ◌||◌, nat_le, nat_eq, refl, sym, ap, ◌∙◌, arith}
use Rattle.std.proofs.Common.{append_assoc, length-append}
use Rattle.std.specs.List.{list_all}
use Rattle.std.proofs.lemmas.Bool.{and_parts, leb-true, lt-leb}
use Rattle.std.proofs.lemmas.Grind.{common_steps}
use Rattle.std.proofs.lemmas.List.{map-append}
use Rattle.ccsl_base.specs.Name.{is_visible}
use Rattle.ccsl_vcd_lex.specs.Tokens.{is_white, Token, token, tokens_from, Heard, word, hear}
use Rattle.ccsl_vcd_lex.specs.Lexing.{Dark}
use Rattle.ccsl_vcd_lex.proofs.Cuts.{fresh-behind, tokens-cut, from-behind, one-token}
use Rattle.ccsl_vcd_lex.proofs.Told.{short-word}
use Rattle.ccsl_vcd_write.specs.Text.{text_of}

-- visible bytes, at least one, and not too many for a token
abbrev pub is_spelled : List ℕ → Bool
is_spelled w = nat_le 1 (length w) && (nat_le (length w) 64 && list_all is_visible w)

abbrev pub are_spelled : List (List ℕ) → Bool
are_spelled ws = list_all is_spelled ws

abbrev pub spaced : List (List ℕ) → List ℕ
spaced [] = []
spaced (w ∷ []) = w
spaced (w ∷ v ∷ ws) = w ++ 32 ∷ spaced (v ∷ ws)

-- words with one byte behind each, from a place on; and the place behind them
abbrev pub placed : ℕ → List (List ℕ) → List Token
placed at [] = []
placed at (w ∷ ws) = token at w ∷ placed (at + length w + 1) ws

abbrev pub behind : ℕ → List (List ℕ) → ℕ
behind at [] = at
behind at (w ∷ ws) = behind (at + length w + 1) ws

pub placed-append : (at : ℕ) (vs ws : List (List ℕ)) → placed at (vs ++ ws) ≡ placed at vs ++ placed (behind at vs) ws
placed-append at [] ws = refl
placed-append at (v ∷ vs) ws = ap (λ (ts : List Token). token at v ∷ ts) (placed-append (at + length v + 1) vs ws)

visible-dark : (b : ℕ) → is_visible b ≡ true → is_white b ≡ false
unfolding is_white
visible-dark b h =
    let low : 33 ≤ b = leb-true 33 b (and_parts (nat_le 33 b) (nat_le b 126) h).0 in
    let tab : nat_le b 13 ≡ false = lt-leb b 13 (omega arith) in
    let blank : nat_eq b 32 ≡ false = grind (arith, common_steps) in
    rw (tab, blank) (elim (nat_le 9 b) as (λ w. ((w && false) || false) ≡ false) [ true ↦ refl | false ↦ refl ])

all-dark : (w : List ℕ) → list_all is_visible w ≡ true → Dark w
all-dark [] h = tt
all-dark (b ∷ bs) h = let p = and_parts (is_visible b) (list_all is_visible bs) h in (visible-dark b p.0, all-dark bs p.1)

record Spells (w : List ℕ) : Type 0 where
  some : 1 ≤ length w
  short : length w ≤ 64
  dark : Dark w

spells : (w : List ℕ) → is_spelled w ≡ true → Spells w
spells w h =
    let p = and_parts (nat_le 1 (length w)) (nat_le (length w) 64 && list_all is_visible w) h in
    let q = and_parts (nat_le (length w) 64) (list_all is_visible w) p.1 in
    record { some = leb-true 1 (length w) p.0; short = leb-true (length w) 64 q.0; dark = all-dark w q.1 }

own-token : (at : ℕ) (w : List ℕ) → 1 ≤ length w → Dark w → tokens_from true at w ≡ token at w ∷ []
own-token at [] n d = absurd (omega arith)
own-token at (b ∷ bs) n d = one-token at b bs d

-- a word and white space behind it
pub one-word : (at : ℕ) (w : List ℕ) (end : ℕ) (rest : List ℕ) → is_spelled w ≡ true → is_white end ≡ true
    → map hear (tokens_from true at (w ++ end ∷ rest)) ≡ word (token at w) ∷ map hear (tokens_from true (at + length w + 1) rest)
one-word at w end rest h e =
    let s = spells w h in
    let place : at + length (w ++ end ∷ []) ≡ at + length w + 1 = omega (arith, length-append w (end ∷ [])) in
    let first : tokens_from true at (w ++ end ∷ []) ≡ token at w ∷ [] = from-behind true at w (end ∷ []) (e, tt) ∙ own-token at w s.some s.dark in
    ap (λ (bs : List ℕ). map hear (tokens_from true at bs)) (sym (append_assoc w (end ∷ []) rest))
    ∙ ap (map hear) (tokens-cut true at (w ++ end ∷ []) rest (fresh-behind true w (end ∷ []) (e, tt) (omega arith)))
    ∙ ap (λ (ts : List Token). map hear (ts ++ tokens_from true (at + length (w ++ end ∷ [])) rest)) first
    ∙ ap (λ (k : ℕ). hear (token at w) ∷ map hear (tokens_from true k rest)) place
    ∙ ap (λ (x : Heard). x ∷ map hear (tokens_from true (at + length w + 1) rest)) (short-word at w (omega (arith, s.short)))

pub blank-white : is_white 32 ≡ true
unfolding is_white
blank-white = refl

pub feed-white : is_white 10 ≡ true
unfolding is_white
feed-white = refl

-- a line of words
one-line : (at : ℕ) (w : List ℕ) (ws : List (List ℕ)) (rest : List ℕ) → are_spelled (w ∷ ws) ≡ true
    → map hear (tokens_from true at (spaced (w ∷ ws) ++ 10 ∷ rest)) ≡ map word (placed at (w ∷ ws)) ++ map hear (tokens_from true (behind at (w ∷ ws)) rest)
one-line at w [] rest h = one-word at w 10 rest (and_parts (is_spelled w) true h).0 feed-white
one-line at w (v ∷ ws) rest h =
    let p = and_parts (is_spelled w) (are_spelled (v ∷ ws)) h in
    ap (λ (bs : List ℕ). map hear (tokens_from true at bs)) (append_assoc w (32 ∷ spaced (v ∷ ws)) (10 ∷ rest))
    ∙ one-word at w 32 (spaced (v ∷ ws) ++ 10 ∷ rest) p.0 blank-white
    ∙ ap (λ (hs : List Heard). word (token at w) ∷ hs) (one-line (at + length w + 1) v ws rest p.1)

-- the words of all lines
abbrev pub all_words : List (List (List ℕ)) → List (List ℕ)
all_words [] = []
all_words (ws ∷ lines) = ws ++ all_words lines

-- a line has words
abbrev pub is_line : List (List ℕ) → Bool
is_line [] = false
is_line (w ∷ ws) = are_spelled (w ∷ ws)

abbrev pub are_lines : List (List (List ℕ)) → Bool
are_lines lines = list_all is_line lines

pub text-heard : (at : ℕ) (lines : List (List (List ℕ))) → are_lines lines ≡ true
    → map hear (tokens_from true at (text_of (map spaced lines))) ≡ map word (placed at (all_words lines))
unfolding tokens_from
text-heard at [] h = refl
text-heard at ([] ∷ lines) h = absurd (cc)
text-heard at ((w ∷ ws) ∷ lines) h =
    let p = and_parts (is_line (w ∷ ws)) (are_lines lines) h in
    one-line at w ws (text_of (map spaced lines)) p.0
    ∙ ap (λ (hs : List Heard). map word (placed at (w ∷ ws)) ++ hs) (text-heard (behind at (w ∷ ws)) lines p.1)
    ∙ sym (map-append word (placed at (w ∷ ws)) (placed (behind at (w ∷ ws)) (all_words lines)))
    ∙ ap (map word) (sym (placed-append at (w ∷ ws) (all_words lines)))

pub text_of-append : (xs ys : List (List ℕ)) → text_of (xs ++ ys) ≡ text_of xs ++ text_of ys
text_of-append [] ys = refl
text_of-append (x ∷ xs) ys = ap (λ (t : List ℕ). x ++ 10 ∷ t) (text_of-append xs ys) ∙ sym (append_assoc x (10 ∷ text_of xs) (text_of ys))

pub all_words-append : (xs ys : List (List (List ℕ))) → all_words (xs ++ ys) ≡ all_words xs ++ all_words ys
all_words-append [] ys = refl
all_words-append (x ∷ xs) ys = ap (λ (ws : List (List ℕ)). x ++ ws) (all_words-append xs ys) ∙ sym (append_assoc x (all_words xs) (all_words ys))
