-- A page that is written line by line has the text of the lines.
use Rattle.std.proofs.Common.{◌≡◌, ℕ, Bool, true, false, ◌&&◌, ◌||◌, not, List, [], ◌∷◌, ◌++◌, refl, sym, ap, ◌∙◌, append_assoc}
use Rattle.std.specs.Prelude.{nat_eq, if◌then◌else◌}
use Rattle.std.specs.List.{flat_map}
use Rattle.std.proofs.lemmas.List.{append-nil}
use Rattle.ccsl_ast.specs.Trees.{PlainFile}
use Rattle.ccsl_grammar.specs.Terminals.{Terminal, word, symbol, name, number, quoted}
use Rattle.ccsl_grammar.specs.Kinds.{is_symbol}
use Rattle.ccsl_grammar.specs.Canonical.{TextLine, file_lines}
use Rattle.ccsl_print.specs.declared.edge.Edge.TheVariants.{Start, Opening, Other}
use Rattle.ccsl_print.specs.CanonicalText.{written, touches, laid, line_text, canonical_text}
use Rattle.ccsl_print.specs.Pages.{PlainPage, empty_page, is_parted_from, edge_of, blank_if, step, after, begun, ended, line_after, lines_after}

-- what stands behind t
abbrev behind : Terminal → List Terminal → List ℕ
behind t [] = []
behind t (u ∷ ts) = blank_if (not (touches t u)) ++ (written u ++ behind u ts)

laid_behind : (t : Terminal) (ts : List Terminal) → laid (t ∷ ts) ≡ written t ++ behind t ts
laid_behind t [] = sym (append-nil (written t))
laid_behind t (u ∷ ts) = by_gap (touches t u) (laid_behind u ts)
  where
    by_gap : (b : Bool) → laid (u ∷ ts) ≡ written u ++ behind u ts
        → written t ++ ((if b then [] else (32 ∷ [])) ++ laid (u ∷ ts)) ≡ written t ++ (blank_if (not b) ++ (written u ++ behind u ts))
    by_gap true e = ap (λ z. written t ++ z) e
    by_gap false e = ap (λ z. written t ++ 32 ∷ z) e

or_all : (x : Bool) → not (x || true) ≡ false
or_all true = refl
or_all false = refl

-- behind a symbol
symbol_gap : (b : ℕ) (u : Terminal) → is_parted_from (edge_of (symbol b)) u ≡ not (touches (symbol b) u)
symbol_gap b u = by_bracket (nat_eq b 40) u
  where
    by_bracket : (t : Bool) (u : Terminal)
        → is_parted_from (if t then Opening else Other) u ≡ not ((is_symbol 44 u || is_symbol 59 u || is_symbol 41 u) || (t || (false && is_symbol 40 u)))
    by_bracket true (symbol c) = sym (or_all (nat_eq c 44 || nat_eq c 59 || nat_eq c 41))
    by_bracket true (word w) = refl
    by_bracket true (name x) = refl
    by_bracket true (number at n) = refl
    by_bracket true (quoted at bytes) = refl
    by_bracket false (symbol c) = refl
    by_bracket false (word w) = refl
    by_bracket false (name x) = refl
    by_bracket false (number at n) = refl
    by_bracket false (quoted at bytes) = refl

gap_is : (t u : Terminal) → is_parted_from (edge_of t) u ≡ not (touches t u)
gap_is (symbol b) u = symbol_gap b u
gap_is (word v) (symbol c) = refl
gap_is (word v) (word w) = refl
gap_is (word v) (name x) = refl
gap_is (word v) (number at n) = refl
gap_is (word v) (quoted at bytes) = refl
gap_is (name y) (symbol c) = refl
gap_is (name y) (word w) = refl
gap_is (name y) (name x) = refl
gap_is (name y) (number at n) = refl
gap_is (name y) (quoted at bytes) = refl
gap_is (number i m) (symbol c) = refl
gap_is (number i m) (word w) = refl
gap_is (number i m) (name x) = refl
gap_is (number i m) (number at n) = refl
gap_is (number i m) (quoted at bytes) = refl
gap_is (quoted i b) (symbol c) = refl
gap_is (quoted i b) (word w) = refl
gap_is (quoted i b) (name x) = refl
gap_is (quoted i b) (number at n) = refl
gap_is (quoted i b) (quoted at bytes) = refl

start_gap : (t : Terminal) → is_parted_from Start t ≡ false
start_gap (symbol c) = refl
start_gap (word w) = refl
start_gap (name x) = refl
start_gap (number at n) = refl
start_gap (quoted at bytes) = refl

step_edge : (p : PlainPage) (t : Terminal) → (step p t).edge ≡ edge_of t
unfolding step
step_edge p t = refl

step_text : (p : PlainPage) (t : Terminal) → (step p t).text ≡ p.text ++ (blank_if (is_parted_from p.edge t) ++ written t)
unfolding step
step_text p t = refl

after_text : (p : PlainPage) (t : Terminal) (ts : List Terminal) → p.edge ≡ edge_of t → (after p ts).text ≡ p.text ++ behind t ts
after_text p t [] e = sym (append-nil p.text)
after_text p t (u ∷ ts) e =
    let gap : is_parted_from p.edge u ≡ not (touches t u) = ap (λ z. is_parted_from z u) e ∙ gap_is t u in
    let blank = blank_if (not (touches t u)) in
    after_text (step p u) u ts (step_edge p u)
    ∙ ap (λ z. z ++ behind u ts) (step_text p u ∙ ap (λ z. p.text ++ (blank_if z ++ written u)) gap)
    ∙ append_assoc p.text (blank ++ written u) (behind u ts)
    ∙ ap (λ z. p.text ++ z) (append_assoc blank (written u) (behind u ts))

-- at a line's start
started_text : (p : PlainPage) (ts : List Terminal) → p.edge ≡ Start → (after p ts).text ≡ p.text ++ laid ts
started_text p [] e = sym (append-nil p.text)
started_text p (t ∷ ts) e =
    let gap : is_parted_from p.edge t ≡ false = ap (λ z. is_parted_from z t) e ∙ start_gap t in
    after_text (step p t) t ts (step_edge p t)
    ∙ ap (λ z. z ++ behind t ts) (step_text p t ∙ ap (λ z. p.text ++ (blank_if z ++ written t)) gap)
    ∙ append_assoc p.text (written t) (behind t ts)
    ∙ ap (λ z. p.text ++ z) (sym (laid_behind t ts))

line_after_text : (p : PlainPage) (l : TextLine) → (line_after p l).text ≡ p.text ++ line_text l
unfolding begun ended
line_after_text p l =
    let indent : List ℕ = if l.inside then (32 ∷ 32 ∷ []) else [] in
    ap (λ z. z ++ 10 ∷ []) (started_text (begun p l.inside) l.tokens refl)
    ∙ append_assoc (p.text ++ indent) (laid l.tokens) (10 ∷ [])
    ∙ append_assoc p.text indent (laid l.tokens ++ 10 ∷ [])

lines_after_text : (p : PlainPage) (ls : List TextLine) → (lines_after p ls).text ≡ p.text ++ flat_map line_text ls
lines_after_text p [] = sym (append-nil p.text)
lines_after_text p (l ∷ ls) =
    lines_after_text (line_after p l) ls
    ∙ ap (λ z. z ++ flat_map line_text ls) (line_after_text p l)
    ∙ append_assoc p.text (line_text l) (flat_map line_text ls)

page_text : (ls : List TextLine) → (lines_after empty_page ls).text ≡ flat_map line_text ls
page_text ls = lines_after_text empty_page ls

-- what the printer has written
pub printed : (f : PlainFile) (p : PlainPage) → p ≡ lines_after empty_page (file_lines f) → p.text ≡ canonical_text f
printed f p e = ap (λ z. z.text) e ∙ page_text (file_lines f)
