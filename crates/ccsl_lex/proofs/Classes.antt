-- The first byte of a piece tells what kind of piece it is.
use Rattle.std.proofs.Common.{◌≡◌, ℕ, Bool, true, false, ◌&&◌, ◌||◌, not, cond, List, [], ◌∷◌, ◌++◌, refl, sym, ap, ◌∙◌, inl, inr, arith, leb, eqb}
use Rattle.std.specs.Prelude.{nat_eq, ◌⊎◌, codes}
use Rattle.std.specs.List.{list_all, list_any}
use Rattle.std.proofs.lemmas.Bool.{eqb-true, leb-true, and_parts, false_from_ne_true, both_ways}
use Rattle.ccsl_base.specs.Letters.{is_letter, is_digit, is_inner}
use Rattle.ccsl_lex.specs.Tokens.{Piece, blank, comment, letters, digits, quoted, mark, text_of, starts, is_piece, is_white, is_mark, is_bad}

or_true : (a b : Bool) → (a || b) ≡ true → (a ≡ true) ⊎ (b ≡ true)
or_true true b h = inl refl
or_true false b h = inr h

-- a test that all members of a list fail is false of each byte in the list
apart : (test : ℕ → Bool) (b : ℕ) (cs : List ℕ) → list_any (nat_eq b) cs ≡ true → list_all (λ c. not (test c)) cs ≡ true → test b ≡ false
apart test b [] h f = absurd cc
apart test b (c ∷ cs) h f = elim (or_true (nat_eq b c) (list_any (nat_eq b) cs) h) [
  | inl e ↦ ap test (eqb-true b c e) ∙ fails (test c) (and_parts (not (test c)) (list_all (λ c. not (test c)) cs) f).0
  | inr i ↦ apart test b cs i (and_parts (not (test c)) (list_all (λ c. not (test c)) cs) f).1
]
  where
    fails : (t : Bool) → not t ≡ true → t ≡ false
    fails true h = absurd cc
    fails false h = refl

letter_digit : (b : ℕ) → is_letter b ≡ true → is_digit b ≡ true → ⊥
letter_digit b h d =
    let p = and_parts (leb 48 b) (leb b 57) d in
    let low = leb-true 48 b p.0 in
    let high = leb-true b 57 p.1 in
    elim (or_true ((leb 65 b && leb b 90) || (leb 97 b && leb b 122)) (eqb b 95) h) [
      | inr i ↦ let q = eqb-true b 95 i in omega arith
      | inl i ↦ elim (or_true (leb 65 b && leb b 90) (leb 97 b && leb b 122) i) [
        | inl j ↦ let q = leb-true 65 b (and_parts (leb 65 b) (leb b 90) j).0 in omega arith
        | inr j ↦ let q = leb-true 97 b (and_parts (leb 97 b) (leb b 122) j).0 in omega arith
      ]
    ]

-- the kind of piece that a byte begins: white space, letters, digits, a symbol, a quoted text; else a comment or none
unfoldable pub shape : ℕ → ℕ
shape b = cond (is_white b) 0 (cond (is_letter b) 1 (cond (is_digit b) 2 (cond (is_mark b) 3 (cond (nat_eq b 34) 4 5))))

unfoldable pub class_at : List ℕ → ℕ
class_at [] = 6
class_at (b ∷ bs) = shape b

abbrev pub class_of : Piece → ℕ
class_of (blank b) = 0
class_of (letters bytes) = 1
class_of (digits bytes) = 2
class_of (mark b) = 3
class_of (quoted bytes) = 4
class_of (comment bytes) = 5

white_no : (test : ℕ → Bool) (b : ℕ) → test b ≡ true → list_all (λ c. not (test c)) (32 ∷ 9 ∷ 10 ∷ 13 ∷ []) ≡ true → is_white b ≡ false
white_no test b h f = false_from_ne_true (is_white b) (λ w. both_ways (test b) (apart test b (32 ∷ 9 ∷ 10 ∷ 13 ∷ []) w f) h)

white_shape : (b : ℕ) → is_white b ≡ true → shape b ≡ 0
unfolding shape
white_shape b h = rw h refl

letter_shape : (b : ℕ) → is_letter b ≡ true → shape b ≡ 1
unfolding shape
letter_shape b h = rw (white_no is_letter b h refl, h) refl

digit_shape : (b : ℕ) → is_digit b ≡ true → shape b ≡ 2
unfolding shape
digit_shape b h = rw (white_no is_digit b h refl, false_from_ne_true (is_letter b) (λ l. letter_digit b l h), h) refl

mark_shape : (b : ℕ) → is_mark b ≡ true → shape b ≡ 3
unfolding shape
mark_shape b h = rw (
  apart is_white b (codes "(){},;=<+-") h refl,
  apart is_letter b (codes "(){},;=<+-") h refl,
  apart is_digit b (codes "(){},;=<+-") h refl,
  h,
) refl

-- the first byte of a piece tells its kind
pub class_is : (p : Piece) (r : List ℕ) → is_piece p ≡ true → class_at (text_of p ++ r) ≡ class_of p
unfolding class_at shape
class_is (blank b) r h = white_shape b h
class_is (comment bytes) r h = refl
class_is (letters []) r h = absurd cc
class_is (letters (b ∷ bytes)) r h = letter_shape b (and_parts (is_letter b) (list_all is_inner (b ∷ bytes)) h).0
class_is (digits []) r h = absurd cc
class_is (digits (b ∷ bytes)) r h = digit_shape b (and_parts (is_digit b) (list_all is_digit (b ∷ bytes)) h).0
class_is (quoted bytes) r h = refl
class_is (mark b) r h = mark_shape b h

bad_shape : (w l d m q s : Bool) → not (w || l || d || m || q || s) ≡ true → cond {A = ℕ} w 0 (cond l 1 (cond d 2 (cond m 3 (cond q 4 5)))) ≡ 5
bad_shape false false false false false s h = refl
bad_shape false false false false true s h = absurd cc
bad_shape false false false true q s h = absurd cc
bad_shape false false true m q s h = absurd cc
bad_shape false true d m q s h = absurd cc
bad_shape true l d m q s h = absurd cc

pub bad_class : (r : List ℕ) → is_bad r ≡ true → class_at r ≡ 5
unfolding class_at shape
bad_class [] h = absurd cc
bad_class (b ∷ bytes) h = bad_shape (is_white b) (is_letter b) (is_digit b) (is_mark b) (nat_eq b 34) (nat_eq b 47 && starts (nat_eq 47) bytes) h

pub quote_class : (bytes : List ℕ) → class_at (34 ∷ bytes) ≡ 4
unfolding class_at shape
quote_class bytes = refl

-- a piece has a byte
pub piece_some : (p : Piece) (r : List ℕ) → is_piece p ≡ true → text_of p ++ r ≡ [] → ⊥
piece_some (blank b) r h e = cc
piece_some (comment bytes) r h e = cc
piece_some (letters []) r h e = cc
piece_some (letters (b ∷ bytes)) r h e = cc
piece_some (digits []) r h e = cc
piece_some (digits (b ∷ bytes)) r h e = cc
piece_some (quoted bytes) r h e = cc
piece_some (mark b) r h e = cc
