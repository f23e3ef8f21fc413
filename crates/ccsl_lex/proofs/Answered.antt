-- Each text has tokens, or a first fault.
use Rattle.std.proofs.Common.{◌≡◌, ℕ, zero, suc, ◌+◌, ◌≤◌, ◌<◌, Bool, true, false, List, [], ◌∷◌, ◌++◌, length, take, drop, get_or, Option, Some, None, refl}
use Rattle.std.proofs.Common.{sym, ap, subst, inl, inr, arith, length-drop, leb}
use Rattle.std.specs.Prelude.{◌⊎◌}
use Rattle.std.specs.List.{prefix_len}
use Rattle.std.proofs.lemmas.Bool.{leb-true, leb-false, cases_Bool}
use Rattle.std.proofs.lemmas.Bool.Decides.{eqb_tells}
use Rattle.ccsl_base.specs.declared.limits.TheConstants.{MAX_NAME_BYTES, MAX_NUMBER}
use Rattle.ccsl_base.specs.Decimal.{decimal_value}
use Rattle.ccsl_base.specs.Letters.{is_letter, is_digit, is_inner}
use Rattle.ccsl_base.specs.declared.reserved.Reserved.{Reserved}
use Rattle.ccsl_lex.specs.declared.token.TokenKind.{TokenKind}
use Rattle.ccsl_lex.specs.declared.fault.LexFault.{LexFault}
use Rattle.ccsl_lex.specs.declared.fault.LexFault.TheVariants.{BadByte, NameTooLong, NumberTooLarge, OpenText}
use Rattle.ccsl_base.specs.Quoted.{is_quotable}
use Rattle.ccsl_base.specs.ReservedWords.{reserved}
use Rattle.ccsl_lex.specs.Tokens.{starts, is_white, is_mark, is_remark, token_at, PlainToken, AreTokens, CutAt, is_bad, IsFirstFault}
use Rattle.ccsl_lex.specs.Laws.{TokensOrFault}
use Rattle.ccsl_lex.specs.Found.{Found}
use Rattle.ccsl_lex.proofs.Front.{found_blank, found_mark, found_comment, found_name, found_word, long_name, found_number, large_number, found_quoted}
use Rattle.ccsl_lex.proofs.Front.{open_text}
use Rattle.ccsl_lex.proofs.Cutting.{Lexed, lexed_none, lexed_more, lexed_all}

-- what stands in front of a text that begins at byte at: a piece within the limits, or what is the first fault of each text
-- that is cut up to there
data InFront (at : ℕ) (rest : List ℕ) : Type 0 where
  piece : (len : ℕ) (kind : Option TokenKind) → Found rest len kind → InFront at rest
  fault : (e : LexFault) → ((text : List ℕ) → CutAt text at rest → IsFirstFault e text) → InFront at rest

above : (m n : ℕ) → (n < m) ⊎ (m ≤ n)
above m n = elim (cases_Bool (leb m n)) [ inl l ↦ inr (leb-true m n l) | inr l ↦ inl (leb-false m n l) ]

name_in : (at : ℕ) (text : List ℕ) → starts is_letter text ≡ true → (found : Option Reserved) → reserved (take (prefix_len is_inner text) text) ≡ found
    → prefix_len is_inner text ≤ MAX_NAME_BYTES → InFront at text
name_in at text h None r l = piece (prefix_len is_inner text) _ (found_name text h l r)
name_in at text h (Some word) r l = piece (prefix_len is_inner text) _ (found_word text h word l r)

letters_in : (at : ℕ) (text : List ℕ) → starts is_letter text ≡ true → InFront at text
letters_in at text h = elim (above (prefix_len is_inner text) MAX_NAME_BYTES) [
  | inl l ↦ fault (NameTooLong at) (λ t c. record { rest = text; before = c; fault = long_name text h l })
  | inr l ↦ name_in at text h (reserved (take (prefix_len is_inner text) text)) refl l
]

digits_in : (at : ℕ) (text : List ℕ) → starts is_digit text ≡ true → InFront at text
digits_in at text h = elim (above (decimal_value (take (prefix_len is_digit text) text)) MAX_NUMBER) [
  | inl l ↦ fault (NumberTooLarge at) (λ t c. record { rest = text; before = c; fault = large_number text h l })
  | inr l ↦ piece (prefix_len is_digit text) _ (found_number text h (decimal_value (take (prefix_len is_digit text) text)) l refl)
]

open_in : (at : ℕ) (rest : List ℕ) → (prefix_len is_quotable rest < length rest → get_or rest (prefix_len is_quotable rest) 0 ≡ 34 → ⊥) → InFront at (34 ∷ rest)
open_in at rest q = fault (OpenText at) (λ t c. record { rest = 34 ∷ rest; before = c; fault = open_text rest q })

quoted_in : (at : ℕ) (rest : List ℕ) → InFront at (34 ∷ rest)
quoted_in at rest = elim (above (length rest) (prefix_len is_quotable rest)) [
  | inr l ↦ open_in at rest (λ m e. omega arith)
  | inl l ↦ elim (eqb_tells (get_or rest (prefix_len is_quotable rest) 0) 34) [
    | inl e ↦ piece (prefix_len is_quotable rest + 2) _ (found_quoted rest l e.1)
    | inr e ↦ open_in at rest (λ m i. e.1 i)
  ]
]

bad_in : (at : ℕ) (rest : List ℕ) → is_bad rest ≡ true → InFront at rest
bad_in at rest h = fault (BadByte at) (λ t c. record { rest = rest; before = c; fault = h })

slash_in : (at : ℕ) (rest : List ℕ) → InFront at (47 ∷ rest)
slash_in at [] = bad_in at (47 ∷ []) refl
slash_in at (b ∷ rest) = elim (eqb_tells 47 b) [
  | inl e ↦ subst (λ (z : ℕ). InFront at (47 ∷ z ∷ rest)) e.1 (piece (prefix_len is_remark rest + 2) None (found_comment rest))
  | inr e ↦ bad_in at (47 ∷ b ∷ rest) (rw e.0 refl)
]

front_of : (at b : ℕ) (rest : List ℕ) → InFront at (b ∷ rest)
front_of at b rest =
    elim (cases_Bool (is_white b)) [
      | inl h ↦ piece 1 None (found_blank b rest h)
      | inr w ↦
          elim (cases_Bool (is_letter b)) [
            | inl h ↦ letters_in at (b ∷ rest) h
            | inr l ↦
                elim (cases_Bool (is_digit b)) [
                  | inl h ↦ digits_in at (b ∷ rest) h
                  | inr d ↦
                      elim (cases_Bool (is_mark b)) [
                        | inl h ↦ piece 1 _ (found_mark b rest h)
                        | inr m ↦
                            elim (eqb_tells b 34) [
                              | inl e ↦ subst (λ (z : ℕ). InFront at (z ∷ rest)) (sym e.1) (quoted_in at rest)
                              | inr q ↦
                                  elim (eqb_tells b 47) [
                                    | inl e ↦ subst (λ (z : ℕ). InFront at (z ∷ rest)) (sym e.1) (slash_in at rest)
                                    | inr s ↦
                                        bad_in at (b ∷ rest) (rw (w, l, d, m, q.0, s.0) refl)
                                  ]
                            ]
                      ]
                ]
          ]
    ]

abbrev Answer : List ℕ → Type 0
Answer text = ((ts : List PlainToken) × AreTokens text ts) ⊎ ((e : LexFault) × IsFirstFault e text)

-- one piece after the other, as many as the text has bytes left at most
answered : (left : ℕ) (text : List ℕ) (at : ℕ) (ts : List PlainToken) → Lexed text at ts → length text ≤ at + left → Answer text
answered zero text at ts l h = inl (ts, lexed_all text at ts l (omega arith))
answered (suc left) text at ts l h =
    by_rest (drop at text) refl (λ len kind f. answered left text (at + len) (ts ++ token_at at (at + len) kind) (lexed_more text at len kind ts l f) (let s =
    f.some in omega arith))
  where
    by_front : (rest : List ℕ) → drop at text ≡ rest → ((len : ℕ) (kind : Option TokenKind) → Found (drop at text) len kind → Answer text) → InFront at rest
        → Answer text
    by_front rest e go (piece len kind f) = go len kind (subst (λ (z : List ℕ). Found z len kind) (sym e) f)
    by_front rest e go (fault x f) = inr (x, f text (subst (λ (z : List ℕ). CutAt text at z) e l.cut))

    by_rest : (rest : List ℕ) → drop at text ≡ rest → ((len : ℕ) (kind : Option TokenKind) → Found (drop at text) len kind → Answer text) → Answer text
    by_rest [] e go = inl (ts, lexed_all text at ts l (omega (arith, ap length e, length-drop at text)))
    by_rest (b ∷ rest) e go = by_front (b ∷ rest) e go (front_of at b rest)

pub tokens_or_fault : TokensOrFault
tokens_or_fault text = answered (length text) text 0 [] (lexed_none text) (omega arith)
