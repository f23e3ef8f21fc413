-- One more piece.
use Rattle.std.proofs.Common.{◌≡◌, ℕ, ◌+◌, ◌≤◌, List, [], ◌∷◌, ◌++◌, length, drop, Option, Some, None, refl, sym, ap, subst, ◌∙◌, arith, append_assoc}
use Rattle.std.proofs.Common.{length-append}
use Rattle.std.specs.List.{flat_map}
use Rattle.std.proofs.lemmas.List.{append-nil, drop_at}
use Rattle.std.proofs.lemmas.List.Folds.{list_all-append}
use Rattle.std.proofs.lemmas.Grind.{flat_map-append}
use Rattle.ccsl_lex.specs.declared.token.TokenKind.{TokenKind}
use Rattle.ccsl_lex.specs.Tokens.{Piece, text_of, Stands, AreCut, fits, goes_on, starts, PlainToken, token_at, tokens_of, kind_of, CutAt, AreTokens}
use Rattle.ccsl_lex.specs.Tokens.{IsFirstFault}
use Rattle.ccsl_lex.specs.declared.fault.LexFault.{LexFault}
use Rattle.ccsl_lex.specs.declared.fault.LexFault.TheVariants.{BadByte, NameTooLong, NumberTooLarge, OpenText, Memory}
use Rattle.ccsl_lex.specs.Found.{Found, BeginsFault, UnlessMemory}

spelled_more : (ps : List Piece) (p : Piece) (rest : List ℕ) → flat_map text_of (ps ++ p ∷ []) ++ rest ≡ flat_map text_of ps ++ (text_of p ++ rest)
spelled_more ps p rest = rw (flat_map-append text_of ps (p ∷ []), append-nil (text_of p)) (append_assoc (flat_map text_of ps) (text_of p) rest)

cut_more : (ps : List Piece) (p : Piece) (rest : List ℕ) → AreCut ps (text_of p ++ rest) → Stands p rest → AreCut (ps ++ p ∷ []) rest
cut_more [] p rest c s = (s, tt)
cut_more (q ∷ qs) p rest c s =
    (record { is = c.0.is; longest = ap (λ z. starts (goes_on q) z) (spelled_more qs p rest) ∙ c.0.longest }, cut_more qs p rest c.1 s)

tokens_more : (ps : List Piece) (p : Piece) (at : ℕ)
    → tokens_of at (ps ++ p ∷ []) ≡ tokens_of at ps ++ token_at (at + length (flat_map text_of ps)) ((at + length (flat_map text_of ps)) + length (text_of p))
    (kind_of p)
tokens_more [] p at = let z : at + 0 ≡ at = omega arith in rw z (append-nil (token_at at (at + length (text_of p)) (kind_of p)))
tokens_more (q ∷ qs) p at =
    let e : (at + length (text_of q)) + length (flat_map text_of qs) ≡ at + length (text_of q ++ flat_map text_of qs) =
    omega (arith, length-append (text_of q) (flat_map text_of qs)) in
    ap (λ z. token_at at (at + length (text_of q)) (kind_of q) ++ z) (tokens_more qs p (at + length (text_of q)))
    ∙ rw e (sym (append_assoc (token_at at (at + length (text_of q)) (kind_of q)) (tokens_of (at + length (text_of q)) qs)
    (token_at (at + length (text_of q ++ flat_map text_of qs)) ((at + length (text_of q ++ flat_map text_of qs)) + length (text_of p)) (kind_of p))))

-- how far a lexer has come, and the tokens so far
pub record Lexed (text : List ℕ) (at : ℕ) (ts : List PlainToken) : Type 0 where
  pub cut : CutAt text at (drop at text)
  pub are : ts ≡ tokens_of 0 cut.pieces
  pub within : at ≤ length text

pub lexed_none : (text : List ℕ) → Lexed text 0 []
lexed_none text = record { cut = record { pieces = []; whole = refl; cut = tt; fit = refl; is = refl }; are = refl; within = omega arith }

pub lexed_more : (text : List ℕ) (at len : ℕ) (kind : Option TokenKind) (ts : List PlainToken) → Lexed text at ts → Found (drop at text) len kind
    → Lexed text (at + len) (ts ++ token_at at (at + len) kind)
lexed_more text at len kind ts l f =
    let ps = l.cut.pieces in
    let rest = drop len (drop at text) in
    let whole : text ≡ flat_map text_of (ps ++ f.piece ∷ []) ++ rest =
    l.cut.whole ∙ ap (λ z. flat_map text_of ps ++ z) f.whole ∙ sym (spelled_more ps f.piece rest) in
    let long : length (flat_map text_of (ps ++ f.piece ∷ [])) ≡ at + len =
    rw (flat_map-append text_of ps (f.piece ∷ []), append-nil (text_of f.piece))
    (omega (arith, length-append (flat_map text_of ps) (text_of f.piece), l.cut.is, f.len_is)) in
    let same : drop (at + len) text ≡ rest = ap (drop (at + len)) whole ∙ drop_at (flat_map text_of (ps ++ f.piece ∷ [])) rest (at + len) long in
    record {
      cut = record {
        pieces = ps ++ f.piece ∷ [];
        whole = whole ∙ ap (λ z. flat_map text_of (ps ++ f.piece ∷ []) ++ z) (sym same);
        cut = rw same (cut_more ps f.piece rest (subst (λ (z : List ℕ). AreCut ps z) f.whole l.cut.cut) f.stands);
        fit = list_all-append fits ps (f.piece ∷ []) ∙ rw (l.cut.fit, f.fit) refl;
        is = sym long;
      };
      are = let z : 0 + at ≡ at = omega arith in rw (tokens_more ps f.piece 0, l.are, ← l.cut.is, f.len_is, f.kind_is, z) refl;
      within = omega (arith, ap length whole, long, length-append (flat_map text_of (ps ++ f.piece ∷ [])) rest);
    }

pub lexed_all : (text : List ℕ) (at : ℕ) (ts : List PlainToken) → Lexed text at ts → length text ≤ at → AreTokens text ts
lexed_all text at ts l h =
    let e : drop at text ≡ [] =
    nothing (drop at text) (omega (arith, ap length l.cut.whole, l.cut.is, length-append (flat_map text_of l.cut.pieces) (drop at text))) in
    record {
      pieces = l.cut.pieces;
      whole = l.cut.whole ∙ ap (λ z. flat_map text_of l.cut.pieces ++ z) e ∙ append-nil (flat_map text_of l.cut.pieces);
      cut =
          subst (λ (z : List ℕ). AreCut l.cut.pieces z) e l.cut.cut;
      fit = l.cut.fit;
      are = l.are;
    }
  where
    nothing : (xs : List ℕ) → length xs ≡ 0 → xs ≡ []
    nothing [] n = refl
    nothing (x ∷ xs) n = absurd (omega arith)

pub lexed_token : (text : List ℕ) (at len : ℕ) (k : TokenKind) (found : Option TokenKind) (ts : List PlainToken) → found ≡ Some k → Lexed text at ts
    → Found (drop at text) len found → Lexed text (at + len) (ts ++ (record { at = at; end = at + len; kind = k }) ∷ [])
lexed_token text at len k found ts e l f = lexed_more text at len (Some k) ts l (subst (λ (o : Option TokenKind). Found (drop at text) len o) e f)

pub lexed_nothing : (text : List ℕ) (at len : ℕ) (found : Option TokenKind) (ts : List PlainToken) → found ≡ None → Lexed text at ts
    → Found (drop at text) len found → Lexed text (at + len) ts
lexed_nothing text at len found ts e l f =
    subst (λ (z : List PlainToken). Lexed text (at + len) z) (append-nil ts)
    (lexed_more text at len None ts l (subst (λ (o : Option TokenKind). Found (drop at text) len o) e f))

-- a fault that stands where the text is cut up to is its first
pub first_fault : (text : List ℕ) (at : ℕ) (e : LexFault) → CutAt text at (drop at text) → BeginsFault e at (drop at text)
    → UnlessMemory e (IsFirstFault e text)
first_fault text at (BadByte a) c f = record { rest = drop at text; before = rw f.0 c; fault = f.1 }
first_fault text at (NameTooLong a) c f = record { rest = drop at text; before = rw f.0 c; fault = f.1 }
first_fault text at (NumberTooLarge a) c f = record { rest = drop at text; before = rw f.0 c; fault = f.1 }
first_fault text at (OpenText a) c f = record { rest = drop at text; before = rw f.0 c; fault = f.1 }
first_fault text at Memory c f = tt
