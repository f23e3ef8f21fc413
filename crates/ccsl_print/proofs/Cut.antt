-- The canonical text is cut into the pieces of its tokens and the white space between them.
use Rattle.std.proofs.Common.{◌≡◌, ℕ, ◌+◌, ◌<◌, Bool, true, false, ◌||◌, List, [], ◌∷◌, ◌++◌, length, map, Option, refl, sym, ap, subst, ◌∙◌, arith}
use Rattle.std.proofs.Common.{append_assoc}
use Rattle.std.specs.Prelude.{if◌then◌else◌}
use Rattle.std.specs.List.{list_all, flat_map}
use Rattle.std.proofs.lemmas.List.Folds.{list_all-append}
use Rattle.std.specs.Str.{IsAscii}
use Rattle.std.proofs.lemmas.Bool.{and_parts, and_from}
use Rattle.std.proofs.lemmas.List.{append-nil}
use Rattle.std.proofs.lemmas.Grind.{flat_map-append}
use Rattle.std.proofs.lemmas.Str.{IsAscii-append}
use Rattle.std.proofs.lemmas.Str.Ascii.{IsAscii-nil, IsAscii-cons}
use Rattle.ccsl_base.specs.Letters.{is_letter, is_digit, is_inner}
use Rattle.ccsl_lex.specs.declared.token.TokenKind.{TokenKind}
use Rattle.ccsl_lex.specs.Tokens.{Piece, blank, text_of, starts, is_piece, goes_on, AreCut, fits, token_at, tokens_of}
use Rattle.ccsl_grammar.specs.Terminals.{Terminal, word, symbol, name, number, quoted}
use Rattle.ccsl_grammar.specs.Bare.{bare, bares}
use Rattle.ccsl_grammar.specs.Canonical.{TextLine}
use Rattle.ccsl_print.specs.CanonicalText.{written, touches, laid, line_text}
use Rattle.ccsl_print.specs.ReadsBack.{plain_terminal}
use Rattle.ccsl_print.proofs.Pieces.{piece_of, written_is, is_kept, ReadsAs, reads_as, mark_apart}
use Rattle.ccsl_lex.proofs.Front.{never_starts}

-- ---- the pieces of lines

abbrev gap : Bool → List Piece
gap true = []
gap false = blank 32 ∷ []

abbrev pieces_of : List Terminal → List Piece
pieces_of [] = []
pieces_of (t ∷ []) = piece_of t ∷ []
pieces_of (t ∷ u ∷ ts) = piece_of t ∷ (gap (touches t u) ++ pieces_of (u ∷ ts))

abbrev indented : Bool → List Piece → List Piece
indented true ps = blank 32 ∷ blank 32 ∷ ps
indented false ps = ps

abbrev pub lines_pieces : List TextLine → List Piece
lines_pieces [] = []
lines_pieces (l ∷ ls) = indented l.inside (pieces_of l.tokens ++ blank 10 ∷ lines_pieces ls)

abbrev bytes_of : List Piece → List ℕ
bytes_of ps = flat_map text_of ps

laid_bytes : (ts : List Terminal) → laid ts ≡ bytes_of (pieces_of ts)
laid_bytes [] = refl
laid_bytes (t ∷ []) = written_is t ∙ sym (append-nil (text_of (piece_of t)))
laid_bytes (t ∷ u ∷ ts) = by_gap (touches t u) (laid_bytes (u ∷ ts))
  where
    by_gap : (b : Bool) → laid (u ∷ ts) ≡ bytes_of (pieces_of (u ∷ ts))
        → written t ++ ((if b then [] else (32 ∷ [])) ++ laid (u ∷ ts)) ≡ bytes_of (piece_of t ∷ (gap b ++ pieces_of (u ∷ ts)))
    by_gap true e = ap (λ z. z ++ laid (u ∷ ts)) (written_is t) ∙ ap (λ z. text_of (piece_of t) ++ z) e
    by_gap false e = ap (λ z. z ++ (32 ∷ laid (u ∷ ts))) (written_is t) ∙ ap (λ z. text_of (piece_of t) ++ 32 ∷ z) e

-- a line behind its indentation
line_bytes : (ts : List Terminal) (ps : List Piece) (bs : List ℕ) → bs ≡ bytes_of ps → (laid ts ++ 10 ∷ []) ++ bs ≡ bytes_of (pieces_of ts ++ blank 10 ∷ ps)
line_bytes ts ps bs e =
    append_assoc (laid ts) (10 ∷ []) bs
    ∙ ap (λ z. z ++ 10 ∷ bs) (laid_bytes ts)
    ∙ ap (λ z. bytes_of (pieces_of ts) ++ 10 ∷ z) e
    ∙ sym (flat_map-append text_of (pieces_of ts) (blank 10 ∷ ps))

indented_bytes : (b : Bool) (xs bs : List ℕ) (ps : List Piece) → xs ++ bs ≡ bytes_of ps
    → ((if b then (32 ∷ 32 ∷ []) else []) ++ xs) ++ bs ≡ bytes_of (indented b ps)
indented_bytes true xs bs ps e = ap (λ z. 32 ∷ 32 ∷ z) e
indented_bytes false xs bs ps e = e

pub lines_bytes : (ls : List TextLine) → flat_map line_text ls ≡ bytes_of (lines_pieces ls)
lines_bytes [] = refl
lines_bytes (l ∷ ls) =
    indented_bytes l.inside (laid l.tokens ++ 10 ∷ []) (flat_map line_text ls) (pieces_of l.tokens ++ blank 10 ∷ lines_pieces ls)
    (line_bytes l.tokens (lines_pieces ls) (flat_map line_text ls) (lines_bytes ls))

-- ---- pieces that stand one behind the other, and are read as these tokens

abbrev reads : ℕ → List Piece → List Terminal
reads at ps = bares (map plain_terminal (tokens_of at ps))

pub record Fine (ps : List Piece) (ts : List Terminal) : Type 0 where
  pub cut : AreCut ps []
  pub fit : list_all fits ps ≡ true
  pub ascii : IsAscii (bytes_of ps)
  pub read : (at : ℕ) → reads at ps ≡ bares ts

-- a piece behind which none of its bytes stands
first_fine : (t : Terminal) (ps : List Piece) (ts : List Terminal) → ReadsAs t → starts (goes_on (piece_of t)) (bytes_of ps ++ []) ≡ false → Fine ps ts
    → Fine (piece_of t ∷ ps) (t ∷ ts)
first_fine t ps ts r h f = record {
  cut = (record { is = r.piece; longest = h }, f.cut);
  fit = and_from (fits (piece_of t)) (list_all fits ps) r.fit f.fit;
  ascii = IsAscii-append (text_of (piece_of t)) (bytes_of ps) r.ascii f.ascii;
  read = λ at.
      let end = at + length (text_of (piece_of t)) in
      ap (λ (o : Option TokenKind). bares (map plain_terminal (token_at at end o ++ tokens_of end ps))) r.kind_is
      ∙ ap (λ z. z ∷ reads end ps) (r.same at)
      ∙ ap (λ z. bare t ∷ z) (f.read end);
}

blank_fine : (b : ℕ) (ps : List Piece) (ts : List Terminal) → is_piece (blank b) ≡ true → b < 128 → Fine ps ts → Fine (blank b ∷ ps) ts
blank_fine b ps ts h s f = record {
  cut = (record { is = h; longest = never_starts (bytes_of ps ++ []) }, f.cut);
  fit = f.fit;
  ascii = IsAscii-cons b (bytes_of ps) s f.ascii;
  read = λ at. f.read (at + 1);
}

-- ---- a token ends before what is no inner byte

digit_apart : (z : List ℕ) → starts is_inner z ≡ false → starts is_digit z ≡ false
digit_apart [] h = refl
digit_apart (b ∷ bs) h = right (is_letter b) (is_digit b) h
  where
    right : (x y : Bool) → (x || y) ≡ false → y ≡ false
    right true y e = absurd cc
    right false y e = e

ends : (t : Terminal) (z : List ℕ) → starts is_inner z ≡ false → starts (goes_on (piece_of t)) z ≡ false
ends (word w) z h = h
ends (symbol b) z h = never_starts z
ends (name x) z h = h
ends (number at n) z h = digit_apart z h
ends (quoted at bytes) z h = never_starts z

-- what touches the token before it, or is touched, keeps the two apart
apart : (t u : Terminal) (z : List ℕ) → touches t u ≡ true → is_kept u ≡ true → starts (goes_on (piece_of t)) (text_of (piece_of u) ++ z) ≡ false
apart t (symbol c) z h k = ends t (c ∷ z) (mark_apart c k)
apart (symbol b) u z h k = never_starts (text_of (piece_of u) ++ z)
apart (quoted at bytes) u z h k = never_starts (text_of (piece_of u) ++ z)
apart (word v) (word w) z h k = absurd cc
apart (word v) (name x) z h k = absurd cc
apart (word v) (number at n) z h k = absurd cc
apart (word v) (quoted at bytes) z h k = absurd cc
apart (name y) (word w) z h k = absurd cc
apart (name y) (name x) z h k = absurd cc
apart (name y) (number at n) z h k = absurd cc
apart (name y) (quoted at bytes) z h k = absurd cc
apart (number i m) (word w) z h k = absurd cc
apart (number i m) (name x) z h k = absurd cc
apart (number i m) (number at n) z h k = absurd cc
apart (number i m) (quoted at bytes) z h k = absurd cc

-- ---- lines

-- the bytes of a line's tokens, and of more, begin with those of its first token
begins : (u : Terminal) (ts : List Terminal) (more : List Piece) → (z : List ℕ) × (bytes_of (pieces_of (u ∷ ts) ++ more) ++ [] ≡ text_of (piece_of u) ++ z)
begins u [] more = (bytes_of more ++ [], append_assoc (text_of (piece_of u)) (bytes_of more) [])
begins u (v ∷ ts) more = let behind =
    bytes_of ((gap (touches u v) ++ pieces_of (v ∷ ts)) ++ more) in (behind ++ [], append_assoc (text_of (piece_of u)) behind [])

next_fine : (t u : Terminal) (ps : List Piece) (ts : List Terminal) (b : Bool) → touches t u ≡ b → ReadsAs t → is_kept u ≡ true
    → ((z : List ℕ) × (bytes_of ps ++ [] ≡ text_of (piece_of u) ++ z)) → Fine ps ts → Fine (piece_of t ∷ (gap b ++ ps)) (t ∷ ts)
next_fine t u ps ts true e r k begin f = first_fine t ps ts r (ap (starts (goes_on (piece_of t))) begin.1 ∙ apart t u begin.0 e k) f
next_fine t u ps ts false e r k begin f = first_fine t (blank 32 ∷ ps) ts r (ends t (32 ∷ (bytes_of ps ++ [])) refl) (blank_fine 32 ps ts refl (omega arith) f)

laid_fine : (ts : List Terminal) (more : List Piece) (back : List Terminal) → list_all is_kept ts ≡ true → starts is_inner (bytes_of more ++ []) ≡ false
    → Fine more back → Fine (pieces_of ts ++ more) (ts ++ back)
laid_fine [] more back k h f = f
laid_fine (t ∷ []) more back k h f = first_fine t more back (reads_as t (and_parts (is_kept t) true k).0) (ends t (bytes_of more ++ []) h) f
laid_fine (t ∷ u ∷ ts) more back k h f =
    let p = and_parts (is_kept t) (list_all is_kept (u ∷ ts)) k in
    let q = and_parts (is_kept u) (list_all is_kept ts) p.1 in
    let fine : Fine (piece_of t ∷ (gap (touches t u) ++ (pieces_of (u ∷ ts) ++ more))) (t ∷ ((u ∷ ts) ++ back)) =
    next_fine t u (pieces_of (u ∷ ts) ++ more) ((u ∷ ts) ++ back) (touches t u) refl (reads_as t p.0) q.0 (begins u ts more)
    (laid_fine (u ∷ ts) more back p.1 h f) in
    subst (λ (z : List Piece). Fine (piece_of t ∷ z) (t ∷ ((u ∷ ts) ++ back))) (sym (append_assoc (gap (touches t u)) (pieces_of (u ∷ ts)) more)) fine

abbrev pub tokens_in : List TextLine → List Terminal
tokens_in ls = flat_map (λ l. l.tokens) ls

indented_fine : (b : Bool) (ps : List Piece) (ts : List Terminal) → Fine ps ts → Fine (indented b ps) ts
indented_fine true ps ts f = blank_fine 32 (blank 32 ∷ ps) ts refl (omega arith) (blank_fine 32 ps ts refl (omega arith) f)
indented_fine false ps ts f = f

pub lines_fine : (ls : List TextLine) → list_all is_kept (tokens_in ls) ≡ true → Fine (lines_pieces ls) (tokens_in ls)
lines_fine [] k = record { cut = tt; fit = refl; ascii = IsAscii-nil; read = λ at. refl }
lines_fine (l ∷ ls) k =
    let p = and_parts (list_all is_kept l.tokens) (list_all is_kept (tokens_in ls)) (sym (list_all-append is_kept l.tokens (tokens_in ls)) ∙ k) in
    let rest = blank 10 ∷ lines_pieces ls in
    let rest_fine : Fine rest (tokens_in ls) = blank_fine 10 (lines_pieces ls) (tokens_in ls) refl (omega arith) (lines_fine ls p.1) in
    indented_fine l.inside (pieces_of l.tokens ++ rest) (l.tokens ++ tokens_in ls) (laid_fine l.tokens rest (tokens_in ls) p.0 refl rest_fine)
