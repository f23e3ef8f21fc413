-- Each token that a kept file may have is written as one piece, within the limits, that is read as this token.
use Rattle.std.proofs.Common.{◌≡◌, ℕ, ◌<◌, ◌^◌, Bool, true, false, ◌&&◌, ◌||◌, not, List, [], ◌∷◌, ◌++◌, length, Option, Some, None, refl, sym, ap, ◌∙◌, arith}
use Rattle.std.proofs.Common.{leb, ◌≤◌}
use Rattle.std.specs.Prelude.{nat_eq, codes}
use Rattle.std.specs.List.{list_all, list_any}
use Rattle.std.specs.Str.{IsAscii}
use Rattle.std.specs.Fmt.{decimal}
use Rattle.std.specs.Int.{IsInRange}
use Rattle.std.proofs.lemmas.Bool.{and_parts, and_from, le-leb, leb-true, eqb-true}
use Rattle.std.proofs.lemmas.Str.{IsAscii-append}
use Rattle.std.proofs.lemmas.Str.Ascii.{IsAscii-nil, IsAscii-cons}
use Rattle.std.proofs.lemmas.Str.Parse.{IsNumeralModel, numerals_by_fold}
use Rattle.std.proofs.lemmas.Fmt.{IsAscii-decimal, decimal_nonempty, digits_decimal, digits_value-decimal}
use Rattle.ccsl_base.specs.Decimal.{value_behind, decimal_value}
use Rattle.ccsl_base.specs.declared.limits.TheConstants.{MAX_NAME_BYTES, MAX_NUMBER}
use Rattle.ccsl_base.specs.Name.{is_word as spells_word}
use Rattle.ccsl_base.specs.Letters.{is_letter, is_digit, is_inner}
use Rattle.ccsl_base.specs.declared.reserved.Reserved.{Reserved}
use Rattle.ccsl_base.specs.declared.reserved.Reserved.TheVariants as w
use Rattle.ccsl_lex.specs.declared.token.TokenKind.{TokenKind}
use Rattle.ccsl_lex.specs.declared.token.TokenKind.TheVariants as kind
use Rattle.ccsl_base.specs.ReservedWords.{spelling, reserved}
use Rattle.ccsl_base.specs.KeptWords.{is_reserved}
use Rattle.ccsl_base.specs.Quoted.{is_quotable}
use Rattle.ccsl_lex.specs.Tokens.{Piece, letters, digits, mark, text_of, starts, is_piece, is_mark, fits, kind_of, name_or_word}
use Rattle.ccsl_lex.specs.Tokens as piece
use Rattle.ccsl_base.proofs.ReservedWords.{reserved_spells, words_read_back}
use Rattle.ccsl_ast.specs.declared.spot.Spot.{Spot}
use Rattle.ccsl_ast.specs.Kept.{spot_kept, number_kept, text_kept}
use Rattle.ccsl_grammar.specs.Terminals.{Terminal, word, symbol, name, number, quoted, seen_as}
use Rattle.ccsl_grammar.specs.Bare.{bare}
use Rattle.ccsl_grammar.proofs.Spelled.{is_mark as is_grammar_mark}
use Rattle.ccsl_print.specs.CanonicalText.{written}
use Rattle.ccsl_lex.proofs.Front.{letter_inner}

abbrev pub piece_of : Terminal → Piece
piece_of (word v) = letters (spelling v)
piece_of (symbol b) = mark b
piece_of (name x) = letters x.name
piece_of (number at n) = digits (decimal n)
piece_of (quoted at bytes) = piece.quoted bytes

pub written_is : (t : Terminal) → written t ≡ text_of (piece_of t)
written_is (word v) = refl
written_is (symbol b) = refl
written_is (name x) = refl
written_is (number at n) = refl
written_is (quoted at bytes) = refl

-- what a file may have
abbrev pub is_kept : Terminal → Bool
is_kept (word v) = true
is_kept (symbol b) = is_mark b
is_kept (name x) = spot_kept x
is_kept (number at n) = number_kept n
is_kept (quoted at bytes) = text_kept bytes

pub record ReadsAs (t : Terminal) : Type 0 where
  pub piece : is_piece (piece_of t) ≡ true
  pub fit : fits (piece_of t) ≡ true
  pub ascii : IsAscii (text_of (piece_of t))
  pub kind : TokenKind
  pub kind_is : kind_of (piece_of t) ≡ Some kind
  pub same : (at : ℕ) → bare (seen_as at kind) ≡ bare t

ascii_from : (test : ℕ → Bool) → ((b : ℕ) → test b ≡ true → b < 128) → (bs : List ℕ) → list_all test bs ≡ true → IsAscii bs
ascii_from test small [] h = IsAscii-nil
ascii_from test small (b ∷ bs) h = let p = and_parts (test b) (list_all test bs) h in IsAscii-cons b bs (small b p.0) (ascii_from test small bs p.1)

pub or_parts : {C : Type 0} (a b : Bool) → (a ≡ true → C) → (b ≡ true → C) → (a || b) ≡ true → C
or_parts true b f g h = f refl
or_parts false b f g h = g h

digit_small : (b : ℕ) → is_digit b ≡ true → b < 128
digit_small b h = let q = leb-true b 57 (and_parts (leb 48 b) (leb b 57) h).1 in omega arith

letter_small : (b : ℕ) → is_letter b ≡ true → b < 128
letter_small b h =
    or_parts ((leb 65 b && leb b 90) || (leb 97 b && leb b 122)) (nat_eq b 95)
    (or_parts (leb 65 b && leb b 90) (leb 97 b && leb b 122) (λ i. let q = leb-true b 90 (and_parts (leb 65 b) (leb b 90) i).1 in omega arith) (λ i. let q =
    leb-true b 122 (and_parts (leb 97 b) (leb b 122) i).1 in omega arith))
    (λ i. let q = eqb-true b 95 i in omega arith) h

inner_small : (b : ℕ) → is_inner b ≡ true → b < 128
inner_small b h = or_parts (is_letter b) (is_digit b) (letter_small b) (digit_small b) h

quotable_small : (b : ℕ) → is_quotable b ≡ true → b < 128
quotable_small b h = let q =
    leb-true b 126 (and_parts (leb b 126) (not (nat_eq b 34)) (and_parts (leb 32 b) (leb b 126 && not (nat_eq b 34)) h).1).0 in omega arith

-- ---- words and names

word_piece : (bytes : List ℕ) → spells_word bytes ≡ true → (starts is_letter bytes && list_all is_inner bytes) ≡ true
word_piece [] h = absurd cc
word_piece (b ∷ bs) h = let p =
    and_parts (is_letter b) (list_all is_inner bs) h in
    and_from (is_letter b) (is_inner b && list_all is_inner bs) p.0 (and_from (is_inner b) (list_all is_inner bs) (letter_inner b p.0) p.1)

word_ascii : (bytes : List ℕ) → spells_word bytes ≡ true → IsAscii bytes
word_ascii bytes h = ascii_from is_inner inner_small bytes (and_parts (starts is_letter bytes) (list_all is_inner bytes) (word_piece bytes h)).1

-- each reserved word is spelled as a word, within the limit, and is reserved
abbrev is_fine : Reserved → Bool
is_fine v = (spells_word (spelling v) && leb (length (spelling v)) MAX_NAME_BYTES) && is_reserved (spelling v)

fine : (v : Reserved) → is_fine v ≡ true
fine w.Ccsl = refl
fine w.Relation = refl
fine w.Expression = refl
fine w.And = refl
fine w.System = refl
fine w.Clock = refl
fine w.Number = refl
fine w.Word = refl
fine w.Define = refl
fine w.If = refl
fine w.Use = refl
fine w.Else = refl
fine w.Never = refl
fine w.Union = refl
fine w.Inter = refl
fine w.Minus = refl
fine w.Inf = refl
fine w.Sup = refl
fine w.Delay = refl
fine w.Await = refl
fine w.Filter = refl
fine w.Upto = refl
fine w.Sampled = refl
fine w.Weakly = refl
fine w.On = refl
fine w.Delayed = refl
fine w.Then = refl
fine w.Tail = refl
fine w.Head = refl
fine w.Ended = refl
fine w.Subclock = refl
fine w.Coincides = refl
fine w.Excludes = refl
fine w.Precedes = refl
fine w.Within = refl
fine w.From = refl

unreserved : (bytes : List ℕ) → not (is_reserved bytes) ≡ true → reserved bytes ≡ None
unreserved bytes h = by_read (reserved bytes) refl
  where
    by_read : (o : Option Reserved) → reserved bytes ≡ o → reserved bytes ≡ None
    by_read None e = e
    by_read (Some v) e =
        let p : is_reserved bytes ≡ true =
        ap is_reserved (reserved_spells bytes v e)
        ∙ (and_parts (spells_word (spelling v) && leb (length (spelling v)) MAX_NAME_BYTES) (is_reserved (spelling v)) (fine v)).1 in
        absurd (let q : false ≡ true = sym (ap not p) ∙ h in cc)

word_reads : (v : Reserved) → ReadsAs (word v)
word_reads v =
    let p = and_parts (spells_word (spelling v) && leb (length (spelling v)) MAX_NAME_BYTES) (is_reserved (spelling v)) (fine v) in
    let q = and_parts (spells_word (spelling v)) (leb (length (spelling v)) MAX_NAME_BYTES) p.0 in
    record {
      piece = word_piece (spelling v) q.0;
      fit = q.1;
      ascii = word_ascii (spelling v) q.0;
      kind = kind.Word v;
      kind_is =
          ap (λ o. Some (name_or_word (spelling v) o)) (words_read_back v);
      same = λ at. refl;
    }

name_reads : (x : Spot) → spot_kept x ≡ true → ReadsAs (name x)
name_reads x h =
    let p = and_parts (spells_word x.name && leb (length x.name) MAX_NAME_BYTES) (not (is_reserved x.name)) h in
    let q = and_parts (spells_word x.name) (leb (length x.name) MAX_NAME_BYTES) p.0 in
    record {
      piece = word_piece x.name q.0;
      fit = q.1;
      ascii = word_ascii x.name q.0;
      kind = kind.Name x.name;
      kind_is =
          ap (λ o. Some (name_or_word x.name o)) (unreserved x.name p.1);
      same = λ at. refl;
    }

-- ---- numbers

own : IsNumeralModel (λ ds. list_all is_digit ds ≡ true) (value_behind 0)
own = numerals_by_fold (λ ds. list_all is_digit ds ≡ true) (record { empty = refl; parts = parts; more = more }) value_behind
    (record { empty = λ n. refl; more = λ n c cs h. refl })
  where
    parts : (c : ℕ) (cs : List ℕ) → list_all is_digit (c ∷ cs) ≡ true → IsInRange 48 57 c × (list_all is_digit cs ≡ true)
    parts c cs h =
        let p = and_parts (is_digit c) (list_all is_digit cs) h in
        let q = and_parts (leb 48 c) (leb c 57) p.0 in
        ((leb-true 48 c q.0, leb-true c 57 q.1), p.1)

    more : (c : ℕ) (cs : List ℕ) → IsInRange 48 57 c → list_all is_digit cs ≡ true → list_all is_digit (c ∷ cs) ≡ true
    more c cs h r = and_from (is_digit c) (list_all is_digit cs) (and_from (leb 48 c) (leb c 57) (le-leb 48 c h.0) (le-leb c 57 h.1)) r

digits_piece : (ds : List ℕ) → 0 < length ds → list_all is_digit ds ≡ true → (starts is_digit ds && list_all is_digit ds) ≡ true
digits_piece [] n h = absurd (omega arith)
digits_piece (d ∷ ds) n h = and_from (is_digit d) (list_all is_digit (d ∷ ds)) (and_parts (is_digit d) (list_all is_digit ds) h).0 h

number_reads : (at n : ℕ) → number_kept n ≡ true → ReadsAs (number at n)
number_reads at n h =
    let small : n ≤ 4294967295 = leb-true n MAX_NUMBER h in
    let below : n < 2 ^ 64 = omega arith in
    let same : decimal_value (decimal n) ≡ n = digits_value-decimal own n below in
    record {
      piece = digits_piece (decimal n) (decimal_nonempty n below) (digits_decimal own n below);
      fit = ap (λ z. leb z MAX_NUMBER) same ∙ h;
      ascii = IsAscii-decimal n below;
      kind = kind.Num n;
      kind_is = ap (λ z. Some (kind.Num z)) same;
      same = λ at. refl;
    }

-- ---- symbols and quoted texts

-- a test that all members of a list pass is passed by each byte in the list
each_passes : (test : ℕ → Bool) (bs : List ℕ) (b : ℕ) → list_all test bs ≡ true → list_any (nat_eq b) bs ≡ true → test b ≡ true
each_passes test [] b h i = absurd cc
each_passes test (c ∷ cs) b h i =
    let p = and_parts (test c) (list_all test cs) h in
    or_parts (nat_eq b c) (list_any (nat_eq b) cs) (λ e. ap test (eqb-true b c e) ∙ p.0) (each_passes test cs b p.1) i

mark_small : (b : ℕ) → is_mark b ≡ true → b < 128
mark_small b h = let q = leb-true b 127 (each_passes (λ c. leb c 127) (codes "(){},;=<+-") b refl h) in omega arith

-- no symbol goes on a name or a number
pub mark_apart : (b : ℕ) → is_mark b ≡ true → is_inner b ≡ false
mark_apart b h = fails (is_inner b) (each_passes (λ c. not (is_inner c)) (codes "(){},;=<+-") b refl h)
  where
    fails : (t : Bool) → not t ≡ true → t ≡ false
    fails true h = absurd cc
    fails false h = refl

-- the symbols of the grammar are those of the lexer
pub mark_read : (b : ℕ) → is_grammar_mark b ≡ true → is_mark b ≡ true
mark_read b h = each_passes is_mark (40 ∷ 41 ∷ 43 ∷ 44 ∷ 45 ∷ 59 ∷ 60 ∷ 61 ∷ 123 ∷ 125 ∷ []) b refl h

symbol_reads : (b : ℕ) → is_mark b ≡ true → ReadsAs (symbol b)
symbol_reads b h = record {
  piece = h;
  fit = refl;
  ascii = IsAscii-cons b [] (mark_small b h) IsAscii-nil;
  kind = kind.Symbol b;
  kind_is = refl;
  same =
      λ at. refl;
}

quoted_reads : (at : ℕ) (bytes : List ℕ) → text_kept bytes ≡ true → ReadsAs (quoted at bytes)
quoted_reads at bytes h = record {
  piece = h;
  fit = refl;
  ascii = IsAscii-cons 34 (bytes ++ 34 ∷ []) (omega arith)
      (IsAscii-append bytes (34 ∷ []) (ascii_from is_quotable quotable_small bytes h) (IsAscii-cons 34 [] (omega arith) IsAscii-nil));
  kind = kind.Quoted bytes;
  kind_is = refl;
  same = λ at. refl;
}

pub reads_as : (t : Terminal) → is_kept t ≡ true → ReadsAs t
reads_as (word v) h = word_reads v
reads_as (symbol b) h = symbol_reads b h
reads_as (name x) h = name_reads x h
reads_as (number at n) h = number_reads at n h
reads_as (quoted at bytes) h = quoted_reads at bytes h
