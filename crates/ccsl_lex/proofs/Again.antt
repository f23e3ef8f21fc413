-- The tokens of a text with what stands between them are the text again.
use Rattle.std.proofs.Common.{◌≡◌, ℕ, ◌+◌, true, List, [], ◌∷◌, ◌++◌, length, Option, Some, None, refl, sym, ap, subst, ◌∙◌, arith, append_assoc, length-append}
use Rattle.std.specs.List.{list_all, flat_map}
use Rattle.std.proofs.lemmas.List.{append-nil}
use Rattle.std.proofs.lemmas.List.Folds.{list_all-append}
use Rattle.std.proofs.lemmas.Grind.{flat_map-append}
use Rattle.std.proofs.lemmas.Bool.{and_parts}
use Rattle.ccsl_base.specs.Decimal.{decimal_value}
use Rattle.ccsl_base.specs.Letters.{is_digit}
use Rattle.ccsl_base.specs.declared.reserved.Reserved.{Reserved}
use Rattle.ccsl_lex.specs.declared.token.TokenKind.{TokenKind}
use Rattle.ccsl_lex.specs.declared.token.TokenKind.TheVariants.{Num, Quoted, Symbol}
use Rattle.ccsl_base.specs.ReservedWords.{reserved}
use Rattle.ccsl_lex.specs.Tokens.{Piece, blank, comment, letters, digits, quoted, mark, text_of, starts, AreCut, name_or_word, token_at, tokens_of, PlainToken}
use Rattle.ccsl_lex.specs.Laws.{IsSpelled, is_between, StandIn, TextAgain}
use Rattle.ccsl_base.proofs.ReservedWords.{reserved_spells}

word_spelled : (bytes : List ℕ) (found : Option Reserved) → reserved bytes ≡ found → IsSpelled (name_or_word bytes found) bytes
word_spelled bytes None e = refl
word_spelled bytes (Some word) e = reserved_spells bytes word e

-- white space and comments so far, and one piece of them more
between_more : (gap : List Piece) (p : Piece) → list_all is_between gap ≡ true → is_between p ≡ true → list_all is_between (gap ++ p ∷ []) ≡ true
between_more gap p g h = list_all-append is_between gap (p ∷ []) ∙ rw (g, h) refl

gap_more : (gap : List Piece) (p : Piece) → flat_map text_of (gap ++ p ∷ []) ≡ flat_map text_of gap ++ text_of p
gap_more gap p = rw (flat_map-append text_of gap (p ∷ []), append-nil (text_of p)) refl

-- a piece that is no token belongs to the gap
skipped : (from : ℕ) (gap : List Piece) (p : Piece) (ps : List Piece)
    → StandIn from (flat_map text_of (gap ++ p ∷ []) ++ flat_map text_of ps) (tokens_of (from + length (flat_map text_of (gap ++ p ∷ []))) ps)
    → StandIn from (flat_map text_of gap ++ (text_of p ++ flat_map text_of ps)) (tokens_of ((from + length (flat_map text_of gap)) + length (text_of p)) ps)
skipped from gap p ps h =
    let e : flat_map text_of (gap ++ p ∷ []) ++ flat_map text_of ps ≡ flat_map text_of gap ++ (text_of p ++ flat_map text_of ps) =
    ap (λ z. z ++ flat_map text_of ps) (gap_more gap p) ∙ append_assoc (flat_map text_of gap) (text_of p) (flat_map text_of ps) in
    let l : from + length (flat_map text_of (gap ++ p ∷ [])) ≡ (from + length (flat_map text_of gap)) + length (text_of p) =
    omega (arith, ap length (gap_more gap p), length-append (flat_map text_of gap) (text_of p)) in
    subst (λ (z : List ℕ). StandIn from z (tokens_of ((from + length (flat_map text_of gap)) + length (text_of p)) ps)) e
    (subst (λ (n : ℕ). StandIn from (flat_map text_of (gap ++ p ∷ []) ++ flat_map text_of ps) (tokens_of n ps)) l h)

-- a piece that is a token comes behind the gap
taken : (from : ℕ) (gap : List Piece) (p : Piece) (ps : List Piece) (kind : TokenKind) → list_all is_between gap ≡ true → IsSpelled kind (text_of p)
    → StandIn ((from + length (flat_map text_of gap)) + length (text_of p)) (flat_map text_of ps)
    (tokens_of (((from + length (flat_map text_of gap)) + length (text_of p)) + 0) ps)
    → StandIn from (flat_map text_of gap ++ (text_of p ++ flat_map text_of ps))
    (token_at (from + length (flat_map text_of gap)) ((from + length (flat_map text_of gap)) + length (text_of p)) (Some kind)
    ++ tokens_of ((from + length (flat_map text_of gap)) + length (text_of p)) ps)
taken from gap p ps kind g s h =
    let end : ℕ = (from + length (flat_map text_of gap)) + length (text_of p) in
    let z : end + 0 ≡ end = omega arith in (
      flat_map text_of ps,
      record {
        gap = flat_map text_of gap;
        bytes = text_of p;
        whole = refl;
        between = record { pieces = gap; whole = refl; all = g };
        spelled = s;
        at =
            refl;
        end = refl;
      },
      subst (λ (n : ℕ). StandIn end (flat_map text_of ps) (tokens_of n ps)) z h,
    )

stand_in : (from : ℕ) (ps gap : List Piece) → list_all is_between gap ≡ true → AreCut ps []
    → StandIn from (flat_map text_of gap ++ flat_map text_of ps) (tokens_of (from + length (flat_map text_of gap)) ps)
stand_in from [] gap g c = record { pieces = gap; whole = append-nil (flat_map text_of gap); all = g }
stand_in from (blank b ∷ ps) gap g c = skipped from gap (blank b) ps (stand_in from ps (gap ++ blank b ∷ []) (between_more gap (blank b) g c.0.is) c.1)
stand_in from (comment bs ∷ ps) gap g c =
    skipped from gap (comment bs) ps (stand_in from ps (gap ++ comment bs ∷ []) (between_more gap (comment bs) g c.0.is) c.1)
stand_in from (letters bs ∷ ps) gap g c =
    taken from gap (letters bs) ps (name_or_word bs (reserved bs)) g (word_spelled bs (reserved bs) refl)
    (stand_in ((from + length (flat_map text_of gap)) + length bs) ps [] refl c.1)
stand_in from (digits bs ∷ ps) gap g c =
    taken from gap (digits bs) ps (Num (decimal_value bs)) g ((and_parts (starts is_digit bs) (list_all is_digit bs) c.0.is).1, refl)
    (stand_in ((from + length (flat_map text_of gap)) + length bs) ps [] refl c.1)
stand_in from (quoted bs ∷ ps) gap g c =
    taken from gap (quoted bs) ps (Quoted bs) g refl (stand_in ((from + length (flat_map text_of gap)) + length (text_of (quoted bs))) ps [] refl c.1)
stand_in from (mark b ∷ ps) gap g c = taken from gap (mark b) ps (Symbol b) g refl (stand_in ((from + length (flat_map text_of gap)) + 1) ps [] refl c.1)

pub text_again : TextAgain
text_again text ts t =
    subst (λ (z : List ℕ). StandIn 0 z ts) (sym t.whole)
    (subst (λ (z : List PlainToken). StandIn 0 (flat_map text_of t.pieces) z) (sym t.are) (stand_in 0 t.pieces [] refl t.cut))
