-- A piece that stands in front of a list is the longest in front of it, and the only one that stands there.
use Rattle.std.proofs.Common.{◌≡◌, ℕ, ◌≤◌, Bool, true, false, List, [], ◌∷◌, ◌++◌, length, refl, sym, ap, ◌∙◌, arith, append_assoc, length-append}
use Rattle.std.specs.List.{list_all}
use Rattle.std.proofs.lemmas.Bool.{and_parts, both_ways}
use Rattle.ccsl_base.specs.Letters.{is_letter, is_digit, is_inner}
use Rattle.ccsl_base.specs.Quoted.{is_quotable}
use Rattle.ccsl_lex.specs.Tokens.{Piece, blank, comment, letters, digits, quoted, mark, text_of, starts, is_piece, is_remark, Stands}
use Rattle.ccsl_lex.specs.Laws.{NoneLonger}
use Rattle.ccsl_lex.proofs.Classes.{class_of, class_at, class_is}

-- a run in front of a list is no longer than one behind which stands no byte of the kind
pub run_longest : (test : ℕ → Bool) (bs r cs s : List ℕ) → starts test r ≡ false → list_all test cs ≡ true → bs ++ r ≡ cs ++ s → length cs ≤ length bs
run_longest test bs r [] s f h e = omega arith
run_longest test [] r (c ∷ cs) s f h e = absurd (both_ways (test c) (ap (starts test) (sym e) ∙ f) (and_parts (test c) (list_all test cs) h).0)
run_longest test (b ∷ bs) r (c ∷ cs) s f h e =
    let t : bs ++ r ≡ cs ++ s = cc in
    let l : length cs ≤ length bs = run_longest test bs r cs s f (and_parts (test c) (list_all test cs) h).1 t in
    omega arith

longer_in_class : (p q : Piece) (rest behind : List ℕ) → class_of p ≡ class_of q → Stands p rest → is_piece q ≡ true → text_of p ++ rest ≡ text_of q ++ behind
    → length (text_of q) ≤ length (text_of p)
longer_in_class (blank b) (blank c) rest behind k s h e = omega arith
longer_in_class (comment bs) (comment cs) rest behind k s h e =
    let t : bs ++ rest ≡ cs ++ behind = cc in
    let l : length cs ≤ length bs = run_longest is_remark bs rest cs behind s.longest h t in omega arith
longer_in_class (letters bs) (letters cs) rest behind k s h e =
    run_longest is_inner bs rest cs behind s.longest (and_parts (starts is_letter cs) (list_all is_inner cs) h).1 e
longer_in_class (digits bs) (digits cs) rest behind k s h e =
    run_longest is_digit bs rest cs behind s.longest (and_parts (starts is_digit cs) (list_all is_digit cs) h).1 e
longer_in_class (quoted bs) (quoted cs) rest behind k s h e =
    let t : (bs ++ 34 ∷ []) ++ rest ≡ (cs ++ 34 ∷ []) ++ behind = cc in
    let l : length cs ≤ length bs =
    run_longest is_quotable bs (34 ∷ rest) cs (34 ∷ behind) refl h (sym (append_assoc bs (34 ∷ []) rest) ∙ t ∙ append_assoc cs (34 ∷ []) behind) in
    omega (arith, length-append bs (34 ∷ []), length-append cs (34 ∷ []))
longer_in_class (mark b) (mark c) rest behind k s h e = omega arith
longer_in_class p q rest behind k s h e = absurd (omega arith)

pub same_class : (p q : Piece) (rest behind : List ℕ) → is_piece p ≡ true → is_piece q ≡ true → text_of p ++ rest ≡ text_of q ++ behind
    → class_of p ≡ class_of q
same_class p q rest behind g h e = sym (class_is p rest g) ∙ ap class_at e ∙ class_is q behind h

pub none_longer : NoneLonger
none_longer p q rest behind s h e = longer_in_class p q rest behind (same_class p q rest behind s.is h e) s h e

pub split_same : (xs r ys s : List ℕ) → length xs ≡ length ys → xs ++ r ≡ ys ++ s → (xs ≡ ys) × (r ≡ s)
split_same [] r [] s l e = (refl, e)
split_same [] r (y ∷ ys) s l e = absurd (omega arith)
split_same (x ∷ xs) r [] s l e = absurd (omega arith)
split_same (x ∷ xs) r (y ∷ ys) s l e =
    let h : x ≡ y = cc in
    let t : xs ++ r ≡ ys ++ s = cc in
    let n = split_same xs r ys s (omega arith) t in
    (rw (h, n.0) refl, n.1)

text_same : (p q : Piece) → class_of p ≡ class_of q → text_of p ≡ text_of q → p ≡ q
text_same (blank b) (blank c) k e = let h : b ≡ c = cc in ap blank h
text_same (comment bs) (comment cs) k e = let h : bs ≡ cs = cc in ap comment h
text_same (letters bs) (letters cs) k e = ap letters e
text_same (digits bs) (digits cs) k e = ap digits e
text_same (quoted bs) (quoted cs) k e =
    let t : bs ++ 34 ∷ [] ≡ cs ++ 34 ∷ [] = cc in
    ap quoted (split_same bs (34 ∷ []) cs (34 ∷ []) (omega (arith, ap length t, length-append bs (34 ∷ []), length-append cs (34 ∷ []))) t).0
text_same (mark b) (mark c) k e = let h : b ≡ c = cc in ap mark h
text_same p q k e = absurd (omega arith)

-- two pieces that stand in front of one list are one
pub first_same : (p q : Piece) (r s : List ℕ) → Stands p r → Stands q s → text_of p ++ r ≡ text_of q ++ s → (p ≡ q) × (r ≡ s)
first_same p q r s x y e =
    let below : length (text_of q) ≤ length (text_of p) = none_longer p q r s x y.is e in
    let above : length (text_of p) ≤ length (text_of q) = none_longer q p s r y x.is (sym e) in
    let n = split_same (text_of p) r (text_of q) s (omega arith) e in
    (text_same p q (same_class p q r s x.is y.is e) n.0, n.1)
