-- A text has at most one list of tokens, at most one first fault, and not and_parts.
use Rattle.std.proofs.Common.{◌≡◌, ℕ, ◌≤◌, Bool, true, false, ◌||◌, List, [], ◌∷◌, ◌++◌, length, refl, sym, ap, ◌∙◌, inl, inr, arith, append_assoc}
use Rattle.std.specs.Prelude.{nat_eq, ◌⊎◌}
use Rattle.std.specs.List.{list_all, flat_map}
use Rattle.std.proofs.lemmas.List.{append-nil}
use Rattle.std.proofs.lemmas.List.Folds.{list_all-append}
use Rattle.std.proofs.lemmas.Bool.{and_parts, or_right, both_ways}
use Rattle.ccsl_base.specs.Letters.{is_letter, is_digit, is_inner}
use Rattle.ccsl_lex.specs.declared.fault.LexFault.{LexFault}
use Rattle.ccsl_lex.specs.declared.fault.LexFault.TheVariants.{BadByte, NameTooLong, NumberTooLarge, OpenText, Memory}
use Rattle.ccsl_base.specs.Quoted.{is_quotable}
use Rattle.ccsl_lex.specs.Tokens.{Piece, blank, comment, letters, digits, quoted, mark, text_of, starts, is_piece, Stands, AreCut, is_white, is_mark, fits}
use Rattle.ccsl_lex.specs.Tokens.{PlainToken, tokens_of, AreTokens, CutAt, is_bad, IsBad, IsOpen, IsPastLimit, IsFirstFault}
use Rattle.ccsl_lex.specs.Found.{UnlessMemory}
use Rattle.ccsl_lex.proofs.Classes.{class_of, class_at, class_is, bad_class, quote_class, piece_some}
use Rattle.ccsl_lex.proofs.Longest.{first_same, run_longest, split_same}

-- no piece within the limits stands in front of r, and r is not empty
record IsBroken (r : List ℕ) : Type 0 where
  none : (m : Piece) (z : List ℕ) → r ≡ text_of m ++ z → Stands m z → fits m ≡ true → ⊥
  some : r ≡ [] → ⊥

-- two cuts of one text: they end level, or one goes on where the other ends
data Ahead (ps : List Piece) (r : List ℕ) (qs : List Piece) (s : List ℕ) : Type 0 where
  level : ps ≡ qs → r ≡ s → Ahead ps r qs s
  behind : (m : Piece) (ms : List Piece) → qs ≡ ps ++ m ∷ ms → r ≡ text_of m ++ (flat_map text_of ms ++ s) → Stands m (flat_map text_of ms ++ s)
      → Ahead ps r qs s
  before : (m : Piece) (ms : List Piece) → ps ≡ qs ++ m ∷ ms → s ≡ text_of m ++ (flat_map text_of ms ++ r) → Stands m (flat_map text_of ms ++ r)
      → Ahead ps r qs s

ahead_cons : (p q : Piece) (ps qs : List Piece) (r s : List ℕ) → p ≡ q → Ahead ps r qs s → Ahead (p ∷ ps) r (q ∷ qs) s
ahead_cons p q ps qs r s e (level h i) = level (rw (e, h) refl) i
ahead_cons p q ps qs r s e (behind m ms h i j) = behind m ms (rw (e, h) refl) i j
ahead_cons p q ps qs r s e (before m ms h i j) = before m ms (rw (e, h) refl) i j

ahead : (ps : List Piece) (r : List ℕ) (qs : List Piece) (s : List ℕ) → AreCut ps r → AreCut qs s → flat_map text_of ps ++ r ≡ flat_map text_of qs ++ s
    → Ahead ps r qs s
ahead [] r [] s c d e = level refl e
ahead [] r (q ∷ qs) s c d e = behind q qs refl (e ∙ append_assoc (text_of q) (flat_map text_of qs) s) d.0
ahead (p ∷ ps) r [] s c d e = before p ps refl (sym e ∙ append_assoc (text_of p) (flat_map text_of ps) r) c.0
ahead (p ∷ ps) r (q ∷ qs) s c d e =
    let h : text_of p ++ (flat_map text_of ps ++ r) ≡ text_of q ++ (flat_map text_of qs ++ s) =
    sym (append_assoc (text_of p) (flat_map text_of ps) r) ∙ e ∙ append_assoc (text_of q) (flat_map text_of qs) s in
    let n = first_same p q (flat_map text_of ps ++ r) (flat_map text_of qs ++ s) c.0 d.0 h in
    ahead_cons p q ps qs r s n.0 (ahead ps r qs s c.1 d.1 n.1)

fit_in : (qs : List Piece) (m : Piece) (ms ps : List Piece) → ps ≡ qs ++ m ∷ ms → list_all fits ps ≡ true → fits m ≡ true
fit_in qs m ms ps e h = (and_parts (fits m) (list_all fits ms)
    (and_parts (list_all fits qs) (list_all fits (m ∷ ms)) (sym (list_all-append fits qs (m ∷ ms)) ∙ ap (list_all fits) (sym e) ∙ h)).1).0

pub one_tokens : (text : List ℕ) (ts us : List PlainToken) → AreTokens text ts → AreTokens text us → ts ≡ us
one_tokens text ts us a b = one_as (ahead a.pieces [] b.pieces [] a.cut b.cut (ap (λ z. z ++ []) (sym a.whole ∙ b.whole)))
  where
    one_as : Ahead a.pieces [] b.pieces [] → ts ≡ us
    one_as (level h i) = a.are ∙ ap (tokens_of 0) h ∙ sym b.are
    one_as (behind m ms h i j) = absurd (piece_some m (flat_map text_of ms ++ []) j.is (sym i))
    one_as (before m ms h i j) = absurd (piece_some m (flat_map text_of ms ++ []) j.is (sym i))

one_place : (text : List ℕ) (a b : ℕ) (r s : List ℕ) → CutAt text a r → CutAt text b s → IsBroken r → IsBroken s → (a ≡ b) × (r ≡ s)
one_place text a b r s x y f g = place_as (ahead x.pieces r y.pieces s x.cut y.cut (sym x.whole ∙ y.whole))
  where
    place_as : Ahead x.pieces r y.pieces s → (a ≡ b) × (r ≡ s)
    place_as (level h i) = (x.is ∙ ap (λ z. length (flat_map text_of z)) h ∙ sym y.is, i)
    place_as (behind m ms h i j) = absurd (f.none m (flat_map text_of ms ++ s) i j (fit_in x.pieces m ms y.pieces h y.fit))
    place_as (before m ms h i j) = absurd (g.none m (flat_map text_of ms ++ r) i j (fit_in y.pieces m ms x.pieces h x.fit))

not_broken : (text : List ℕ) (ts : List PlainToken) (at : ℕ) (r : List ℕ) → AreTokens text ts → CutAt text at r → IsBroken r → ⊥
not_broken text ts at r t y g = both_as (ahead t.pieces [] y.pieces r t.cut y.cut (append-nil (flat_map text_of t.pieces) ∙ sym t.whole ∙ y.whole))
  where
    both_as : Ahead t.pieces [] y.pieces r → ⊥
    both_as (level h i) = g.some (sym i)
    both_as (behind m ms h i j) = piece_some m (flat_map text_of ms ++ r) j.is (sym i)
    both_as (before m ms h i j) = g.none m (flat_map text_of ms ++ []) i j (fit_in y.pieces m ms t.pieces h t.fit)

-- where a piece past its limit stands, none within the limits does
past_limit_is_broken : (kind : List ℕ → Piece) (r : List ℕ) → IsPastLimit kind r → IsBroken r
past_limit_is_broken kind r h = record {
  none = λ m z e t f. let n = first_same (kind h.bytes) m h.behind z h.stands t (sym h.whole ∙ e) in both_ways (fits m) (ap fits (sym n.0) ∙ h.past) f;
  some = λ e. piece_some (kind h.bytes) h.behind h.stands.is (sym h.whole ∙ e);
}

past_limit_class : (kind : List ℕ → Piece) (r : List ℕ) (h : IsPastLimit kind r) → class_at r ≡ class_of (kind h.bytes)
past_limit_class kind r h = ap class_at h.whole ∙ class_is (kind h.bytes) h.behind h.stands.is

-- no piece begins with a bad byte
good_front : (m : Piece) (z : List ℕ) → is_piece m ≡ true → is_bad (text_of m ++ z) ≡ false
good_front (blank b) z h = rw h refl
good_front (comment bytes) z h = refl
good_front (letters []) z h = absurd cc
good_front (letters (b ∷ bytes)) z h =
    let l = (and_parts (is_letter b) (list_all is_inner (b ∷ bytes)) h).0 in
    let o : (is_white b || is_letter b) ≡ true = or_right (is_white b) (is_letter b) l in
    rw o refl
good_front (digits []) z h = absurd cc
good_front (digits (b ∷ bytes)) z h =
    let l = (and_parts (is_digit b) (list_all is_digit (b ∷ bytes)) h).0 in
    let o : (is_white b || is_letter b || is_digit b) ≡ true = or_right (is_white b || is_letter b) (is_digit b) l in
    rw o refl
good_front (quoted bytes) z h = refl
good_front (mark b) z h =
    let o : (is_white b || is_letter b || is_digit b || is_mark b) ≡ true = or_right (is_white b || is_letter b || is_digit b) (is_mark b) h in
    rw o refl

bad_is_broken : (r : List ℕ) → IsBad r → IsBroken r
bad_is_broken r h = record {
  none = λ m z e t f. both_ways (is_bad r) (ap is_bad e ∙ good_front m z t.is) h;
  some = λ e. both_ways (is_bad r) (ap is_bad e) h;
}

starts_less : (bs : List ℕ) → starts (λ b. is_quotable b || nat_eq b 34) bs ≡ false → starts is_quotable bs ≡ false
starts_less [] h = refl
starts_less (b ∷ bs) h = left_false (is_quotable b) (nat_eq b 34) h
  where
    left_false : (x y : Bool) → (x || y) ≡ false → x ≡ false
    left_false true y h = h
    left_false false y h = refl

-- a piece in front of a text that isn't closed would be a quoted text with the same bytes, and then a quote
closed : (m : Piece) (bytes after z : List ℕ) → class_of m ≡ 4 → is_piece m ≡ true → list_all is_quotable bytes ≡ true
    → starts (λ b. is_quotable b || nat_eq b 34) after ≡ false → 34 ∷ (bytes ++ after) ≡ text_of m ++ z → ⊥
closed (quoted cs) bytes after z k p h o e =
    let t : bytes ++ after ≡ cs ++ (34 ∷ z) = (let u : bytes ++ after ≡ (cs ++ 34 ∷ []) ++ z = cc in u ∙ append_assoc cs (34 ∷ []) z) in
    let below : length cs ≤ length bytes = run_longest is_quotable bytes after cs (34 ∷ z) (starts_less after o) p t in
    let above : length bytes ≤ length cs = run_longest is_quotable cs (34 ∷ z) bytes after refl h (sym t) in
    let n = split_same bytes after cs (34 ∷ z) (omega arith) t in
    both_ways (starts (λ b. is_quotable b || nat_eq b 34) after) o (ap (starts (λ b. is_quotable b || nat_eq b 34)) n.1)
closed m bytes after z k p h o e = omega arith

open_is_broken : (r : List ℕ) → IsOpen r → IsBroken r
open_is_broken r h = record {
  none = λ m z e t f. closed m h.bytes h.behind z (sym (class_is m z t.is) ∙ ap class_at (sym e ∙ h.whole) ∙ quote_class (h.bytes ++ h.behind)) t.is h.quotable
      h.open_end (sym h.whole ∙ e);
  some = λ e. let i : [] ≡ 34 ∷ (h.bytes ++ h.behind) = sym e ∙ h.whole in cc;
}

fault_class : LexFault → ℕ
fault_class (BadByte at) = 5
fault_class (NameTooLong at) = 1
fault_class (NumberTooLarge at) = 2
fault_class (OpenText at) = 4
fault_class Memory = 6

place_of : LexFault → ℕ
place_of (BadByte at) = at
place_of (NameTooLong at) = at
place_of (NumberTooLarge at) = at
place_of (OpenText at) = at
place_of Memory = 0

-- where a first fault stands, the text is broken, and its first byte tells which fault it is
record IsBrokenBy (text : List ℕ) (e : LexFault) : Type 0 where
  rest : List ℕ
  before : CutAt text (place_of e) rest
  broken : IsBroken rest
  class : class_at rest ≡ fault_class e

broken_by : (text : List ℕ) (e : LexFault) → IsFirstFault e text → IsBrokenBy text e
unfolding fault_class place_of
broken_by text (BadByte at) x = record { rest = x.rest; before = x.before; broken = bad_is_broken x.rest x.fault; class = bad_class x.rest x.fault }
broken_by text (NameTooLong at) x =
    record { rest = x.rest; before = x.before; broken = past_limit_is_broken letters x.rest x.fault; class = past_limit_class letters x.rest x.fault }
broken_by text (NumberTooLarge at) x =
    record { rest = x.rest; before = x.before; broken = past_limit_is_broken digits x.rest x.fault; class = past_limit_class digits x.rest x.fault }
broken_by text (OpenText at) x = record {
  rest = x.rest;
  before = x.before;
  broken = open_is_broken x.rest x.fault;
  class = ap class_at x.fault.whole ∙ quote_class (x.fault.bytes ++ x.fault.behind);
}
broken_by text Memory x = absurd x

same_fault : (e f : LexFault) → fault_class e ≡ fault_class f → place_of e ≡ place_of f → e ≡ f
unfolding fault_class place_of
same_fault (BadByte a) (BadByte b) k p = ap BadByte p
same_fault (NameTooLong a) (NameTooLong b) k p = ap NameTooLong p
same_fault (NumberTooLarge a) (NumberTooLarge b) k p = ap NumberTooLarge p
same_fault (OpenText a) (OpenText b) k p = ap OpenText p
same_fault Memory Memory k p = refl
same_fault e f k p = absurd (omega arith)

pub one_fault : (text : List ℕ) (e f : LexFault) → IsFirstFault e text → IsFirstFault f text → e ≡ f
one_fault text e f x y =
    let p = broken_by text e x in
    let q = broken_by text f y in
    let n = one_place text (place_of e) (place_of f) p.rest q.rest p.before q.before p.broken q.broken in
    same_fault e f (sym p.class ∙ ap class_at n.1 ∙ q.class) n.0

pub not_both : (text : List ℕ) (ts : List PlainToken) (e : LexFault) → AreTokens text ts → IsFirstFault e text → ⊥
not_both text ts e t x = let p = broken_by text e x in not_broken text ts (place_of e) p.rest t p.before p.broken

-- where a fault is answered that is not want of memory, the text has no tokens and no other first fault
pub fault_tokens : (text : List ℕ) (e : LexFault) → UnlessMemory e (IsFirstFault e text) → (ts : List PlainToken) → AreTokens text ts → e ≡ Memory
fault_tokens text Memory h ts a = refl
fault_tokens text (BadByte at) h ts a = absurd (not_both text ts (BadByte at) a h)
fault_tokens text (NameTooLong at) h ts a = absurd (not_both text ts (NameTooLong at) a h)
fault_tokens text (NumberTooLarge at) h ts a = absurd (not_both text ts (NumberTooLarge at) a h)
fault_tokens text (OpenText at) h ts a = absurd (not_both text ts (OpenText at) a h)

pub fault_fault : (text : List ℕ) (e : LexFault) → UnlessMemory e (IsFirstFault e text) → (f : LexFault) → IsFirstFault f text → (e ≡ f) ⊎ (e ≡ Memory)
fault_fault text Memory h f x = inr refl
fault_fault text (BadByte at) h f x = inl (one_fault text (BadByte at) f h x)
fault_fault text (NameTooLong at) h f x = inl (one_fault text (NameTooLong at) f h x)
fault_fault text (NumberTooLarge at) h f x = inl (one_fault text (NumberTooLarge at) f h x)
fault_fault text (OpenText at) h f x = inl (one_fault text (OpenText at) f h x)
