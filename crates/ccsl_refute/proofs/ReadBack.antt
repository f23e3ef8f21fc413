-- What is written reads back.
use Rattle.std.proofs.Common.{◌≡◌, ℕ, zero, suc, ◌+◌, ◌*◌, ◌-◌, ◌<◌, ◌≤◌, ◌^◌, List, [], ◌∷◌, ◌++◌, length, map, get_or, cond, Bool, true, false, not, ◌&&◌}
use Rattle.std.proofs.Common.{◌||◌, Some, None, Ok, nat_eq, nat_lt, nat_le, codes, decimal, refl, sym, ap, ap₂, ◌∙◌, subst, slice_get, arith, append_assoc}
use Rattle.std.proofs.Common.{append-nil}
use Rattle.std.specs.List.{All, list_all, position_or_len, slice_split}
use Rattle.std.specs.Str.{bytes_eq}
use Rattle.std.specs.Char.{digit_value}
use Rattle.std.specs.Str.Parse.{AllDigits, IsNumeral, digits_value, digits_value_after}
use Rattle.std.proofs.lemmas.Bool.{lt-ltb, le-leb, and_parts, not-true, or_right}
use Rattle.std.proofs.lemmas.Fmt.{decimal_is_IsNumeral}
use Rattle.std.proofs.lemmas.Str.{digit_value_digit}
use Rattle.std.proofs.lemmas.Str.Parse.{digit_from_value}
use Rattle.std.proofs.lemmas.List.Elements.{All-head, All-tail}
use Rattle.std.proofs.lemmas.List.Splits.{slice_split_at, length-slice_split}
use Rattle.std.proofs.lemmas.Option.{slice_get-get_or, unwrap_or-slice_get}
use Rattle.ccsl_base.specs.Letters.{is_digit}
use Rattle.ccsl_base.specs.Decimal.{value_behind, decimal_value, number_up_to}
use Rattle.ccsl_base.specs.Names.{is_among, find_name, are_distinct}
use Rattle.ccsl_base.proofs.Tables.{bytes_eq-true, bytes_eq-refl, there-among, place-own, find-own}
use Rattle.ccsl_refute.specs.declared.fault.CertFault.TheVariants.{Syntax, UnknownName}
use Rattle.ccsl_refute.specs.declared.line.Lit.{Lit}
use Rattle.ccsl_refute.specs.declared.line.Line.{Line}
use Rattle.ccsl_refute.specs.declared.line.Line.TheVariants.{Nonempty, Item, Derived}
use Rattle.ccsl_refute.specs.Below.{AreBelow}
use Rattle.ccsl_base.specs.Name.{is_visible, is_cert_name, are_cert_names}
use Rattle.ccsl_refute.specs.NumbersFit.{AllBelow, NumbersFit}
use Rattle.ccsl_refute.specs.Text.{placed, is_line_feed, without_returns, lines_from, tokens}
use Rattle.ccsl_refute.specs.Reading.{literal_of, literal, read_first, read_literals, read_numbers, before_from, after_from, read_hints, item_line}
use Rattle.ccsl_refute.specs.Reading.{derived_line, read_tokens, read_more, read_line, read_lines}
use Rattle.ccsl_refute.specs.Writing.{spaced, name_of, literal_text, line_text, lines_text}
use Rattle.ccsl_refute.specs.LineLiterals.{literals}
use Rattle.ccsl_refute.proofs.Lines.{followed}
use Rattle.ccsl_refute.proofs.Words.{is_word, are_words, tokens-spaced, line-clear, line-kept}
use Rattle.ccsl_base.proofs.Sets.{by_case}
use Rattle.ccsl_base.proofs.Digits.{are-digits, digits-visible, value-same}

-- a name is found at its place

each-name : (names : List (List ℕ)) (x : ℕ) (name : List ℕ) → are_cert_names names ≡ true → slice_get names x ≡ Some name → is_cert_name name ≡ true
each-name [] x name c e = absurd (cc)
each-name (n ∷ ns) zero name c e = let same : n ≡ name = cc in ap is_cert_name (sym same) ∙ (and_parts (is_cert_name n) (are_cert_names ns) c).0
each-name (n ∷ ns) (suc x) name c e = each-name ns x name ((and_parts (is_cert_name n) (are_cert_names ns) c).1) e

-- a number

digits-read : (most n : ℕ) (ds : List ℕ) → IsNumeral 10 ds → digits_value 10 ds ≡ n → n ≤ most → number_up_to most ds ≡ Some n
digits-read most n [] h e l = absurd (omega (arith, h.0))
digits-read most n (d ∷ ds) h e l =
    ap (λ b. cond (b && nat_le (decimal_value (d ∷ ds)) most) (Some (decimal_value (d ∷ ds))) None) (are-digits (d ∷ ds) h.1)
    ∙ ap (λ v. cond (nat_le v most) (Some v) None) (value-same 0 (d ∷ ds) h.1 ∙ e)
    ∙ ap (λ b. cond b (Some n) None) (le-leb n most l)

digits-word : (ds : List ℕ) → IsNumeral 10 ds → is_word ds ≡ true
digits-word [] h = absurd (omega (arith, h.0))
digits-word (d ∷ ds) h = digits-visible (d ∷ ds) h.1

number-read : (most n : ℕ) → n ≤ most → n < 2 ^ 64 → number_up_to most (decimal n) ≡ Some n
number-read most n l m = let h = decimal_is_IsNumeral n m in digits-read most n (decimal n) h.0 h.1 l

number-word : (n : ℕ) → n < 2 ^ 64 → is_word (decimal n) ≡ true
number-word n m = digits-word (decimal n) (decimal_is_IsNumeral n m).0

numbers-back : (hints : List ℕ) (at : ℕ) → AllBelow (2 ^ 64) hints → read_numbers (placed at (map decimal hints)) ≡ Ok hints
numbers-back [] at b = refl
numbers-back (n ∷ ns) at b =
    ap₂ (λ o r. read_first (Syntax at) o r) (number-read (2 ^ 64 - 1) n (omega (arith, b.0)) b.0) (numbers-back ns (suc (at + length (decimal n))) b.1)

numbers-words : (hints : List ℕ) → AllBelow (2 ^ 64) hints → are_words (map decimal hints) ≡ true
numbers-words [] b = refl
numbers-words (n ∷ ns) b = ap₂ (λ s t. s && t) (number-word n b.0) (numbers-words ns b.1)

-- a literal

name-read : (names : List (List ℕ)) (x : ℕ) (name : List ℕ) → is_cert_name name ≡ true → find_name name names ≡ Some x
    → literal names name ≡ Some (record { clock = x; positive = true })
name-read names x [] c e = absurd (cc)
name-read names x (b ∷ bs) c e =
    let sign : nat_eq b 45 ≡ false =
    not-true (nat_eq b 45) ((and_parts (not (nat_eq b 45)) (not (bytes_eq (b ∷ bs) (codes "from"))) ((and_parts (list_all is_visible (b ∷ bs)) _ c).1)).0) in
    ap (λ t. cond t (literal_of false (find_name bs names)) (literal_of true (find_name (b ∷ bs) names))) sign
    ∙ ap (literal_of true) e

name-word : (name : List ℕ) → is_cert_name name ≡ true → is_word name ≡ true
name-word [] c = absurd (cc)
name-word (b ∷ bs) c = (and_parts (list_all is_visible (b ∷ bs)) _ c).0

name-other : (name : List ℕ) → is_cert_name name ≡ true → bytes_eq name (codes "from") ≡ false
name-other [] c = refl
name-other (b ∷ bs) c =
    not-true (bytes_eq (b ∷ bs) (codes "from"))
    ((and_parts (not (nat_eq b 45)) (not (bytes_eq (b ∷ bs) (codes "from"))) ((and_parts (list_all is_visible (b ∷ bs)) _ c).1)).1)

minus-word : (name : List ℕ) → is_word name ≡ true → is_word (45 ∷ name) ≡ true
minus-word [] e = absurd (cc)
minus-word (b ∷ bs) e = e

-- a literal's text, as a word that reads as it
record Reads (names : List (List ℕ)) (l : Lit) (w : List ℕ) : Type 0 where
  back : literal names w ≡ Some l
  word : is_word w ≡ true
  other : bytes_eq w (codes "from") ≡ false

-- a line as its words

abbrev first_word : Line → List ℕ
first_word Nonempty = codes "n"
first_word (Item item lits) = codes "i"
first_word (Derived lits hints) = codes "r"

abbrev later_words : List (List ℕ) → Line → List (List ℕ)
later_words names Nonempty = []
later_words names (Item item lits) = decimal item ∷ map (literal_text names) lits
later_words names (Derived lits hints) = map (literal_text names) lits ++ codes "from" ∷ map decimal hints

line-words : (names : List (List ℕ)) (line : Line) → line_text names line ≡ first_word line ++ spaced (later_words names line)
line-words names Nonempty = refl
line-words names (Item item lits) = refl
line-words names (Derived lits hints) = refl

first-is_word : (line : Line) → is_word (first_word line) ≡ true
first-is_word Nonempty = refl
first-is_word (Item item lits) = refl
first-is_word (Derived lits hints) = refl

module _ (names : List (List ℕ)) (distinct : are_distinct names ≡ true) (proper : are_cert_names names ≡ true) where
  literal-reads : (l : Lit) → l.clock < length names → Reads names l (literal_text names l)
  literal-reads l below =
      let x = l.clock in
      let name = get_or names x [] in
      let there : slice_get names x ≡ Some name = slice_get-get_or names x [] below in
      let is : name ≡ name_of names x = sym (unwrap_or-slice_get names x []) in
      let good : is_cert_name name ≡ true = each-name names x name proper there in
      let found : find_name name names ≡ Some x = find-own names x name distinct there in
      by_case l.positive _
      (λ yes_. subst (λ w. Reads names l w) (is ∙ sym (ap (λ b. cond b (name_of names x) (45 ∷ name_of names x)) yes_))
      (record {
        back = name-read names x name good found ∙ ap (λ (b : Bool). Some (record { clock = x; positive = b })) (sym yes_);
        word = name-word name good;
        other = name-other name good;
      }))
      (λ no_. subst (λ w. Reads names l w) (ap (λ v. 45 ∷ v) is ∙ sym (ap (λ b. cond b (name_of names x) (45 ∷ name_of names x)) no_))
      (record {
        back = ap (literal_of false) found ∙ ap (λ (b : Bool). Some (record { clock = x; positive = b })) (sym no_);
        word = minus-word name (name-word name good);
        other = refl;
      }))

  literals-back : (lits : List Lit) (at : ℕ) → AreBelow (length names) lits → read_literals names (placed at (map (literal_text names) lits)) ≡ Ok lits
  literals-back [] at b = refl
  literals-back (l ∷ ls) at b =
      ap₂ (λ o r. read_first (UnknownName at) o r) (literal-reads l b.0).back (literals-back ls (suc (at + length (literal_text names l))) b.1)

  literals-words : (lits : List Lit) (ws : List (List ℕ)) → AreBelow (length names) lits → are_words ws ≡ true
      → are_words (map (literal_text names) lits ++ ws) ≡ true
  literals-words [] ws b e = e
  literals-words (l ∷ ls) ws b e = ap₂ (λ s t. s && t) (literal-reads l b.0).word (literals-words ls ws b.1 e)

  before-back : (lits : List Lit) (ws : List (List ℕ)) (at : ℕ) → AreBelow (length names) lits →
      before_from (placed at (map (literal_text names) lits ++ codes "from" ∷ ws)) ≡ placed at (map (literal_text names) lits)
  before-back [] ws at b = refl
  before-back (l ∷ ls) ws at b =
      let w = literal_text names l in
      ap (λ t. cond t [] ((at, w) ∷ before_from (placed (suc (at + length w)) (map (literal_text names) ls ++ codes "from" ∷ ws)))) (literal-reads l b.0).other
      ∙ ap (λ ps. (at, w) ∷ ps) (before-back ls ws (suc (at + length w)) b.1)

  after-back : (lits : List Lit) (ws : List (List ℕ)) (at : ℕ) → AreBelow (length names) lits →
      (k : ℕ) × (after_from (placed at (map (literal_text names) lits ++ codes "from" ∷ ws)) ≡ Some (placed k ws))
  after-back [] ws at b = (suc (at + 4), refl)
  after-back (l ∷ ls) ws at b =
      let w = literal_text names l in
      let rest = after-back ls ws (suc (at + length w)) b.1 in (
        rest.0,
        ap (λ t. cond t (Some (placed (suc (at + length w)) (map (literal_text names) ls ++ codes "from" ∷ ws)))
            (after_from (placed (suc (at + length w)) (map (literal_text names) ls ++ codes "from" ∷ ws)))) (literal-reads l b.0).other ∙ rest.1,
      )

  later-are_words : (line : Line) → AreBelow (length names) (literals line) → NumbersFit line → are_words (later_words names line) ≡ true
  later-are_words Nonempty b f = refl
  later-are_words (Item item lits) b f =
      ap₂ (λ s t. s && t) (number-word item (omega (arith, f)))
      (ap are_words (sym (append-nil (map (literal_text names) lits))) ∙ literals-words lits [] b refl)
  later-are_words (Derived lits hints) b f = literals-words lits (codes "from" ∷ map decimal hints) b (numbers-words hints f)

  -- the words of a line read as it
  words-back : (line : Line) (end at k : ℕ) → AreBelow (length names) (literals line) → NumbersFit line →
      read_tokens names end (at, first_word line) (placed k (later_words names line)) ≡ Ok line
  words-back Nonempty end at k b f = refl
  words-back (Item item lits) end at k b f =
      ap₂ (λ o r. item_line k o r) (number-read (2 ^ 32 - 1) item (omega (arith, f)) (omega (arith, f)))
      (literals-back lits (suc (k + length (decimal item))) b)
  words-back (Derived lits hints) end at k b f =
      let after = after-back lits (map decimal hints) k b in
      ap₂ (λ r s. derived_line r s)
      (ap (read_literals names) (before-back lits (map decimal hints) k b) ∙ literals-back lits k b)
      (ap (read_hints end) after.1 ∙ numbers-back hints after.0 f)

  -- one line, and what stands behind its line feed
  line-back : (line : Line) (at : ℕ) (rest : List ℕ) (lines : List Line) → AreBelow (length names) (literals line) → NumbersFit line →
      ((k : ℕ) → read_lines names (lines_from k rest) ≡ Ok lines)
      → read_lines names (lines_from at ((line_text names line ++ 10 ∷ []) ++ rest)) ≡ Ok (line ∷ lines)
  line-back line at rest lines b f h =
      let w = first_word line in
      let ws = later_words names line in
      let text = w ++ spaced ws in
      let words : are_words ws ≡ true = later-are_words line b f in
      let first : is_word w ≡ true = first-is_word line in
      let k = suc (at + length text) in
      let parts = slice_split is_line_feed rest in
      ap (λ t. read_lines names (lines_from at ((t ++ 10 ∷ []) ++ rest))) (line-words names line)
      ∙ ap (λ t. read_lines names (lines_from at t)) (append_assoc text (10 ∷ []) rest)
      ∙ ap (λ ps. read_lines names (without_returns (placed at ps))) (slice_split_at is_line_feed text 10 rest (line-clear w ws first words) refl)
      ∙ ap (read_lines names) (followed at text k parts (omega (arith, length-slice_split is_line_feed rest)))
      ∙ ap (λ t. read_line names (at + length t) (tokens at t) (read_lines names (lines_from k rest))) (line-kept w ws first words)
      ∙ ap₂ (λ ts r. read_line names (at + length text) ts r) (tokens-spaced at w ws first words) (h k)
      ∙ ap (λ r. read_more r (Ok lines)) (words-back line (at + length text) at (suc (at + length w)) b f)

  pub lines-back : (lines : List Line) (at : ℕ) → All (λ line. AreBelow (length names) (literals line)) lines → All NumbersFit lines →
      read_lines names (lines_from at (lines_text names lines)) ≡ Ok lines
  lines-back [] at b f = refl
  lines-back (line ∷ lines) at b f =
      line-back line at (lines_text names lines) lines
      (All-head (λ l. AreBelow (length names) (literals l)) line lines b) (All-head NumbersFit line lines f)
      (λ k. lines-back lines k (All-tail (λ l. AreBelow (length names) (literals l)) line lines b) (All-tail NumbersFit line lines f))
