-- The piece in front of a text.
use Rattle.std.proofs.Common.{◌≡◌, ℕ, suc, ◌+◌, ◌≤◌, ◌<◌, Bool, true, false, ◌&&◌, ◌||◌, List, [], ◌∷◌, ◌++◌, length, take, drop, get_or, Option, Some, None}
use Rattle.std.proofs.Common.{refl, sym, ap, ◌∙◌, inl, inr, arith}
use Rattle.std.specs.Prelude.{nat_eq, IsTrue}
use Rattle.std.specs.List.{list_all, prefix_len}
use Rattle.std.proofs.lemmas.List.{take-append-drop, length-take, length-drop, get_or-drop}
use Rattle.std.proofs.Math.Seq.{take-suc}
use Rattle.std.proofs.lemmas.List.Sums.{prefix_len-le-length}
use Rattle.std.proofs.lemmas.Bool.{le-leb, lt-leb}
use Rattle.std.proofs.lemmas.Bool.Decides.{eqb_tells}
use Rattle.ccsl_base.specs.declared.limits.TheConstants.{MAX_NAME_BYTES, MAX_NUMBER}
use Rattle.ccsl_base.specs.Decimal.{are_digits, decimal_value}
use Rattle.ccsl_base.specs.Name.{is_name, is_word}
use Rattle.ccsl_base.specs.Letters.{is_letter, is_digit, is_inner}
use Rattle.ccsl_base.specs.declared.reserved.Reserved.{Reserved}
use Rattle.ccsl_lex.specs.declared.token.TokenKind.{TokenKind}
use Rattle.ccsl_lex.specs.declared.token.TokenKind.TheVariants.{Name, Num, Quoted, Word, Symbol}
use Rattle.ccsl_lex.specs.Kept.{kind_kept}
use Rattle.ccsl_base.specs.Quoted.{is_quotable}
use Rattle.ccsl_base.specs.ReservedWords.{reserved}
use Rattle.ccsl_lex.specs.Tokens.{Piece, blank, comment, letters, digits, quoted, mark, text_of, starts, is_piece, is_remark, Stands, fits, is_white, is_mark}
use Rattle.ccsl_lex.specs.Tokens.{kind_of, IsPastLimit, IsOpen}
use Rattle.ccsl_lex.specs.Found.{Found, IsKept}
use Rattle.ccsl_lex.proofs.RunLists.{run_passes, run_ends}
use Rattle.ccsl_lex.proofs.Values.{some_digits}
use Rattle.ccsl_base.proofs.ReservedWords.{not_reserved}

-- the run in front of a text whose first byte belongs to it
module _ (first test : ℕ → Bool) (belongs : (b : ℕ) → first b ≡ true → test b ≡ true) where
  pub run_some : (text : List ℕ) → starts first text ≡ true → 0 < prefix_len test text
  run_some [] h = absurd cc
  run_some (b ∷ bs) h = rw (belongs b h) (omega arith)

  pub run_starts : (text : List ℕ) → starts first text ≡ true → starts first (take (prefix_len test text) text) ≡ true
  run_starts [] h = absurd cc
  run_starts (b ∷ bs) h = let s : 1 + prefix_len test bs ≡ suc (prefix_len test bs) = omega arith in rw (belongs b h, s) h

pub letter_inner : (b : ℕ) → is_letter b ≡ true → is_inner b ≡ true
letter_inner b h = rw h refl

letters_word : (b : ℕ) (bytes : List ℕ) → is_piece (letters (b ∷ bytes)) ≡ true → is_word (b ∷ bytes) ≡ true
letters_word b bytes h = by_first (is_letter b) refl h
  where
    by_first : (t : Bool) → is_letter b ≡ t → (t && (is_inner b && list_all is_inner bytes)) ≡ true → (is_letter b && list_all is_inner bytes) ≡ true
    by_first true e i = rw e (rw (letter_inner b e) at i)
    by_first false e i = absurd cc

-- the piece p, which has the first n bytes
front : (text : List ℕ) (n : ℕ) (p : Piece) (kind : Option TokenKind) → text_of p ≡ take n text → n ≤ length text → 0 < n → Stands p (drop n text)
    → fits p ≡ true → kind_of p ≡ kind → IsKept kind → Found text n kind
front text n p kind e l s stands fit kind_is kept = record {
  piece = p;
  whole = sym (take-append-drop n text) ∙ ap (λ z. z ++ drop n text) (sym e);
  len_is = ap length e ∙ omega (arith, length-take n text);
  some = s;
  stands = stands;
  fit = fit;
  kind_is = kind_is;
  kept = kept;
}

-- letters that are no reserved word are a name
name_is : (bytes : List ℕ) → is_piece (letters bytes) ≡ true → length bytes ≤ MAX_NAME_BYTES → reserved bytes ≡ None → is_name bytes ≡ true
name_is [] h l r = absurd cc
name_is (b ∷ bytes) h l r = rw (letters_word b bytes h, le-leb (length (b ∷ bytes)) MAX_NAME_BYTES l, not_reserved (b ∷ bytes) r) refl

-- a name or a word: its n bytes, which go on as long as can be
module _ (text : List ℕ) (h : starts is_letter text ≡ true) where
  letters_stand : Stands (letters (take (prefix_len is_inner text) text)) (drop (prefix_len is_inner text) text)
  letters_stand = record { is = rw (run_starts is_letter is_inner letter_inner text h) (run_passes is_inner text); longest = run_ends is_inner text }

  letters_long : length (take (prefix_len is_inner text) text) ≡ prefix_len is_inner text
  letters_long = omega (arith, length-take (prefix_len is_inner text) text, prefix_len-le-length is_inner text)

  found_letters : (kind : TokenKind) → prefix_len is_inner text ≤ MAX_NAME_BYTES → kind_of (letters (take (prefix_len is_inner text) text)) ≡ Some kind
      → IsTrue (kind_kept kind) → Found text (prefix_len is_inner text) (Some kind)
  found_letters kind l k kept = front text (prefix_len is_inner text) (letters (take (prefix_len is_inner text) text)) (Some kind) refl
      (prefix_len-le-length is_inner text) (run_some is_letter is_inner letter_inner text h) letters_stand
      (le-leb (length (take (prefix_len is_inner text) text)) MAX_NAME_BYTES (omega (arith, letters_long))) k kept

  pub found_word : (word : Reserved) → prefix_len is_inner text ≤ MAX_NAME_BYTES → reserved (take (prefix_len is_inner text) text) ≡ Some word
      → Found text (prefix_len is_inner text) (Some (Word word))
  found_word word l r = found_letters (Word word) l (rw r refl) refl

  pub found_name : prefix_len is_inner text ≤ MAX_NAME_BYTES → reserved (take (prefix_len is_inner text) text) ≡ None
      → Found text (prefix_len is_inner text) (Some (Name (take (prefix_len is_inner text) text)))
  found_name l r = found_letters (Name (take (prefix_len is_inner text) text)) l (rw r refl)
      (name_is (take (prefix_len is_inner text) text) letters_stand.is (omega (arith, letters_long)) r)

  pub long_name : MAX_NAME_BYTES < prefix_len is_inner text → IsPastLimit letters text
  long_name l = record {
    bytes = take (prefix_len is_inner text) text;
    behind = drop (prefix_len is_inner text) text;
    whole = sym (take-append-drop (prefix_len is_inner text) text);
    stands = letters_stand;
    past = lt-leb (length (take (prefix_len is_inner text) text)) MAX_NAME_BYTES (omega (arith, letters_long));
  }

-- a number
module _ (text : List ℕ) (h : starts is_digit text ≡ true) where
  digits_stand : Stands (digits (take (prefix_len is_digit text) text)) (drop (prefix_len is_digit text) text)
  digits_stand = record { is = rw (run_starts is_digit is_digit (λ b i. i) text h) (run_passes is_digit text); longest = run_ends is_digit text }

  pub found_number : (n : ℕ) → n ≤ MAX_NUMBER → n ≡ decimal_value (take (prefix_len is_digit text) text) → Found text (prefix_len is_digit text) (Some (Num n))
  found_number n l e = front text (prefix_len is_digit text) (digits (take (prefix_len is_digit text) text)) (Some (Num n)) refl
      (prefix_len-le-length is_digit text) (run_some is_digit is_digit (λ b i. i) text h) digits_stand
      (rw (← e) (le-leb n MAX_NUMBER l)) (rw (← e) refl) (le-leb n MAX_NUMBER l)

  -- all of them, and at least one
  pub are_run : are_digits (take (prefix_len is_digit text) text) ≡ true
  are_run = some_digits (take (prefix_len is_digit text) text) (run_starts is_digit is_digit (λ b i. i) text h) (run_passes is_digit text)

  pub large_number : MAX_NUMBER < decimal_value (take (prefix_len is_digit text) text) → IsPastLimit digits text
  large_number l = record {
    bytes = take (prefix_len is_digit text) text;
    behind = drop (prefix_len is_digit text) text;
    whole = sym (take-append-drop (prefix_len is_digit text) text);
    stands = digits_stand;
    past = lt-leb (decimal_value (take (prefix_len is_digit text) text)) MAX_NUMBER l;
  }

pub never_starts : (rest : List ℕ) → starts (λ c. false) rest ≡ false
never_starts [] = refl
never_starts (b ∷ bs) = refl

pub found_blank : (b : ℕ) (bs : List ℕ) → is_white b ≡ true → Found (b ∷ bs) 1 None
found_blank b bs h = front (b ∷ bs) 1 (blank b) None refl (omega arith) (omega arith) (record { is = h; longest = never_starts bs }) refl refl tt

pub found_mark : (b : ℕ) (bs : List ℕ) → is_mark b ≡ true → Found (b ∷ bs) 1 (Some (Symbol b))
found_mark b bs h = front (b ∷ bs) 1 (mark b) (Some (Symbol b)) refl (omega arith) (omega arith) (record { is = h; longest = never_starts bs }) refl refl refl

pub found_comment : (rest : List ℕ) → Found (47 ∷ 47 ∷ rest) (prefix_len is_remark rest + 2) None
found_comment rest =
    let two : prefix_len is_remark rest + 2 ≡ suc (suc (prefix_len is_remark rest)) = omega arith in
    rw two (front (47 ∷ 47 ∷ rest) (suc (suc (prefix_len is_remark rest))) (comment (take (prefix_len is_remark rest) rest)) None refl
    (omega (arith, prefix_len-le-length is_remark rest)) (omega arith) (record { is = run_passes is_remark rest; longest = run_ends is_remark rest }) refl refl
    tt)

-- a quoted text: its n bytes and the quote behind them
module _ (rest : List ℕ) (h : prefix_len is_quotable rest < length rest) (q : get_or rest (prefix_len is_quotable rest) 0 ≡ 34) where
  pub found_quoted : Found (34 ∷ rest) (prefix_len is_quotable rest + 2) (Some (Quoted (take (prefix_len is_quotable rest) rest)))
  found_quoted =
      let two : prefix_len is_quotable rest + 2 ≡ suc (suc (prefix_len is_quotable rest)) = omega arith in
      rw two (front (34 ∷ rest) (suc (suc (prefix_len is_quotable rest))) (quoted (take (prefix_len is_quotable rest) rest))
      (Some (Quoted (take (prefix_len is_quotable rest) rest)))
      (ap (λ z. 34 ∷ z) (ap (λ b. take (prefix_len is_quotable rest) rest ++ b ∷ []) (sym q) ∙ sym (take-suc rest (prefix_len is_quotable rest) 0 h)))
      (omega arith) (omega arith) (record { is = run_passes is_quotable rest; longest = never_starts (drop (suc (prefix_len is_quotable rest)) rest) }) refl
      refl (run_passes is_quotable rest))

no_quote : (zs : List ℕ) → starts is_quotable zs ≡ false → (0 < length zs → get_or zs 0 0 ≡ 34 → ⊥) → starts (λ b. is_quotable b || nat_eq b 34) zs ≡ false
no_quote [] h q = refl
no_quote (z ∷ zs) h q = elim (eqb_tells z 34) [ inl t ↦ absurd (q (omega arith) t.1) | inr f ↦ rw (h, f.0) refl ]

-- a quoted text that isn't closed: the byte behind its run is no quote
pub open_text : (rest : List ℕ) → (prefix_len is_quotable rest < length rest → get_or rest (prefix_len is_quotable rest) 0 ≡ 34 → ⊥) → IsOpen (34 ∷ rest)
open_text rest q = record {
  bytes = take (prefix_len is_quotable rest) rest;
  behind = drop (prefix_len is_quotable rest) rest;
  whole = ap (λ z. 34 ∷ z) (sym (take-append-drop (prefix_len is_quotable rest) rest));
  quotable = run_passes is_quotable rest;
  open_end = no_quote (drop (prefix_len is_quotable rest) rest) (run_ends is_quotable rest)
      (λ l e. q (omega (arith, length-drop (prefix_len is_quotable rest) rest)) (sym (at_front rest (prefix_len is_quotable rest)) ∙ e));
}
  where
    at_front : (xs : List ℕ) (n : ℕ) → get_or (drop n xs) 0 0 ≡ get_or xs n 0
    at_front xs n = let z : n + 0 ≡ n = omega arith in get_or-drop n xs 0 0 ∙ ap (λ k. get_or xs k 0) z

pub found_blank_at : (text : List ℕ) → 0 < length text → is_white (get_or text 0 0) ≡ true → Found text 1 None
found_blank_at [] n h = absurd (omega arith)
found_blank_at (b ∷ bs) n h = found_blank b bs h

pub found_mark_at : (text : List ℕ) → 0 < length text → is_mark (get_or text 0 0) ≡ true → Found text 1 (Some (Symbol (get_or text 0 0)))
found_mark_at [] n h = absurd (omega arith)
found_mark_at (b ∷ bs) n h = found_mark b bs h
