-- From the reader's reply to the parser's answer.
use Rattle.std.proofs.Common.{◌≡◌, ℕ, zero, suc, ◌-◌, ◌≤◌, List, [], ◌∷◌, ◌++◌, length, take, drop, Some, refl, sym, ap, subst, ◌∙◌, inl, inr, arith}
use Rattle.std.proofs.Common.{length-append}
use Rattle.std.specs.Prelude.{Result, Err, IsOkAnd, ◌⊎◌}
use Rattle.std.specs.List.{slice_get}
use Rattle.std.proofs.lemmas.List.{length-map, map-append, take-map, drop-map, take_at, drop_at, take-append-drop}
use Rattle.ccsl_base.specs.declared.limits.TheConstants.{MAX_LEVELS}
use Rattle.ccsl_lex.specs.declared.token.Token.{Token}
use Rattle.ccsl_ast.specs.declared.file.File.{File}
use Rattle.ccsl_ast.specs.Trees.{PlainFile}
use Rattle.ccsl_ast.specs.Files.{plain_file}
use Rattle.ccsl_grammar.specs.Terminals.{Terminal, terminal, terminals}
use Rattle.ccsl_grammar.specs.Reader.{Reply, took, stopped, no_syntax, too_deep}
use Rattle.ccsl_grammar.specs.Parser.{file_at}
use Rattle.ccsl_grammar.specs.File.{Parses}
use Rattle.ccsl_grammar.specs.Verdict.{Verdict}
use Rattle.ccsl_grammar.specs.Faults.{last_end, place, SyntaxAt, TooDeepAt}
use Rattle.ccsl_grammar.proofs.Verdict.{reader_is_right, one_verdict}
use Rattle.ccsl_parse.specs.declared.fault.ParseFault.{ParseFault}
use Rattle.ccsl_parse.specs.declared.fault.ParseFault.TheVariants.{Syntax, TooDeep, Memory}
use Rattle.ccsl_parse.specs.Answered.{StandsIn}

last_from : (ts : List Token) (i : ℕ) (t : Token) → suc i ≡ length ts → Some t ≡ slice_get ts i → t.end ≡ last_end ts
last_from [] i t h e = absurd (omega arith)
last_from (u ∷ []) zero t h e = let a : t ≡ u = cc in rw a refl
last_from (u ∷ []) (suc i) t h e = absurd (omega arith)
last_from (u ∷ v ∷ ts) zero t h e = absurd (omega arith)
last_from (u ∷ v ∷ ts) (suc i) t h e = last_from (v ∷ ts) i t (omega arith) e

pub last_at : (ts : List Token) (t : Token) → Some t ≡ slice_get ts (length ts - 1) → t.end ≡ last_end ts
last_at [] t e = absurd cc
last_at (u ∷ ts) t e = last_from (u ∷ ts) (length (u ∷ ts) - 1) t (omega arith) e

pub said : (ts : List Token) (r : Reply PlainFile) → file_at MAX_LEVELS (terminals ts) ≡ r → Verdict MAX_LEVELS (terminals ts) r
said ts r e = subst (λ (r : Reply PlainFile). Verdict MAX_LEVELS (terminals ts) r) e (reader_is_right MAX_LEVELS (terminals ts))

-- ---- the tokens in front of a fault, and those from it on

pub left_fits : (ts rest : List Token) (front : List Terminal) → terminals ts ≡ front ++ terminals rest → length rest ≤ length ts
left_fits ts rest front e = omega (arith, ap length e, length-append front (terminals rest), length-map ts terminal, length-map rest terminal)

record Cut (ts rest : List Token) (front : List Terminal) : Type 0 where
  front_is : terminals (take (length ts - length rest) ts) ≡ front
  back_is : terminals (drop (length ts - length rest) ts) ≡ terminals rest

cut : (ts rest : List Token) (front : List Terminal) → terminals ts ≡ front ++ terminals rest → Cut ts rest front
cut ts rest front e =
    let n : length front ≡ length ts - length rest =
    omega (arith, ap length e, length-append front (terminals rest), length-map ts terminal, length-map rest terminal) in
    record {
      front_is = sym (take-map terminal (length ts - length rest) ts) ∙ ap (take (length ts - length rest)) e
          ∙ take_at front (terminals rest) (length ts - length rest) n;
      back_is = sym (drop-map terminal (length ts - length rest) ts) ∙ ap (drop (length ts - length rest)) e
          ∙ drop_at front (terminals rest) (length ts - length rest) n;
    }

pub syntax_at : (ts rest : List Token) (at : ℕ) → file_at MAX_LEVELS (terminals ts) ≡ stopped no_syntax (terminals rest)
    → at ≡ place (take (length ts - length rest) ts) (drop (length ts - length rest) ts) → SyntaxAt MAX_LEVELS ts at
syntax_at ts rest at e h =
    let v = said ts (stopped no_syntax (terminals rest)) e in
    let c = cut ts rest v.0 v.1 in
    record {
      front = take (length ts - length rest) ts;
      back = drop (length ts - length rest) ts;
      whole =
          sym (take-append-drop (length ts - length rest) ts);
      fails = rw (c.front_is, c.back_is) v.2;
      is = h;
    }

pub too_deep_at : (ts rest : List Token) (at : ℕ) → file_at MAX_LEVELS (terminals ts) ≡ stopped too_deep (terminals rest)
    → at ≡ place (take (length ts - length rest) ts) (drop (length ts - length rest) ts) → TooDeepAt MAX_LEVELS ts at
too_deep_at ts rest at e h =
    let v = said ts (stopped too_deep (terminals rest)) e in
    let c = cut ts rest v.0 v.1 in
    record {
      front = take (length ts - length rest) ts;
      back = drop (length ts - length rest) ts;
      whole =
          sym (take-append-drop (length ts - length rest) ts);
      deep = rw (c.front_is, c.back_is) v.2;
      is = h;
    }

-- ---- one answer alone is true of the tokens

tree_reply : (ts : List Token) (f : PlainFile) → Parses MAX_LEVELS (terminals ts) f → file_at MAX_LEVELS (terminals ts) ≡ took f []
tree_reply ts f p = one_verdict MAX_LEVELS (terminals ts) (took f []) (p, refl)

split : (ts front back : List Token) → ts ≡ front ++ back → terminals ts ≡ terminals front ++ terminals back
split ts front back e = ap terminals e ∙ map-append terminal front back

syntax_reply : (ts : List Token) (at : ℕ) (s : SyntaxAt MAX_LEVELS ts at) → file_at MAX_LEVELS (terminals ts) ≡ stopped no_syntax (terminals s.back)
syntax_reply ts at s = one_verdict MAX_LEVELS (terminals ts) (stopped no_syntax (terminals s.back))
    (terminals s.front, split ts s.front s.back s.whole, s.fails)

too_deep_reply : (ts : List Token) (at : ℕ) (s : TooDeepAt MAX_LEVELS ts at) → file_at MAX_LEVELS (terminals ts) ≡ stopped too_deep (terminals s.back)
too_deep_reply ts at s =
    one_verdict MAX_LEVELS (terminals ts) (stopped too_deep (terminals s.back)) (terminals s.front, split ts s.front s.back s.whole, s.deep)

-- before as many tokens a list is cut at one place
same_place : (ts x y p q : List Token) → ts ≡ x ++ y → ts ≡ p ++ q → terminals y ≡ terminals q → place x y ≡ place p q
same_place ts x y p q e h i =
    let n : length x ≡ length p =
    omega (arith, ap length e, ap length h, length-append x y, length-append p q, ap length i, length-map y terminal, length-map q terminal) in
    let a : x ≡ p = sym (take_at x y (length p) n) ∙ ap (take (length p)) (sym e ∙ h) ∙ take_at p q (length p) refl in
    let b : y ≡ q = sym (drop_at x y (length p) n) ∙ ap (drop (length p)) (sym e ∙ h) ∙ drop_at p q (length p) refl in
    rw (a, b) refl

pub one_file : (ts : List Token) (f g : PlainFile) → Parses MAX_LEVELS (terminals ts) f → Parses MAX_LEVELS (terminals ts) g → f ≡ g
one_file ts f g p q = let e : took f [] ≡ took g [] = sym (tree_reply ts f p) ∙ tree_reply ts g q in cc

one_syntax : (ts : List Token) (m n : ℕ) → SyntaxAt MAX_LEVELS ts m → SyntaxAt MAX_LEVELS ts n → m ≡ n
one_syntax ts m n s t =
    let e = sym (syntax_reply ts m s) ∙ syntax_reply ts n t in
    s.is ∙ same_place ts s.front s.back t.front t.back s.whole t.whole (cc) ∙ sym t.is

one_too_deep : (ts : List Token) (m n : ℕ) → TooDeepAt MAX_LEVELS ts m → TooDeepAt MAX_LEVELS ts n → m ≡ n
one_too_deep ts m n s t =
    let e = sym (too_deep_reply ts m s) ∙ too_deep_reply ts n t in
    s.is ∙ same_place ts s.front s.back t.front t.back s.whole t.whole (cc) ∙ sym t.is

pub tree_or_syntax : (ts : List Token) (f : PlainFile) (n : ℕ) → Parses MAX_LEVELS (terminals ts) f → SyntaxAt MAX_LEVELS ts n → ⊥
tree_or_syntax ts f n p s = let e : took f [] ≡ stopped no_syntax (terminals s.back) = sym (tree_reply ts f p) ∙ syntax_reply ts n s in cc

pub tree_or_too_deep : (ts : List Token) (f : PlainFile) (n : ℕ) → Parses MAX_LEVELS (terminals ts) f → TooDeepAt MAX_LEVELS ts n → ⊥
tree_or_too_deep ts f n p s = let e : took f [] ≡ stopped too_deep (terminals s.back) = sym (tree_reply ts f p) ∙ too_deep_reply ts n s in cc

syntax_or_too_deep : (ts : List Token) (m n : ℕ) → SyntaxAt MAX_LEVELS ts m → TooDeepAt MAX_LEVELS ts n → ⊥
syntax_or_too_deep ts m n s t =
    let e = sym (syntax_reply ts m s) ∙ too_deep_reply ts n t in
    cc

abbrev pub failed : ParseFault → Result File ParseFault
failed e = Err e

-- where a fault is answered, no other answer is true of the tokens
pub fault_tree : (ts : List Token) (e : ParseFault) → StandsIn e ts → (f : PlainFile) → Parses MAX_LEVELS (terminals ts) f
    → IsOkAnd (failed e) (λ file. plain_file file ≡ f) ⊎ (failed e ≡ Err Memory)
fault_tree ts Memory h f p = inr refl
fault_tree ts (Syntax n) h f p = absurd (tree_or_syntax ts f n p h)
fault_tree ts (TooDeep n) h f p = absurd (tree_or_too_deep ts f n p h)

pub fault_syntax : (ts : List Token) (e : ParseFault) → StandsIn e ts → (at : ℕ) → SyntaxAt MAX_LEVELS ts at
    → (failed e ≡ Err (Syntax at)) ⊎ (failed e ≡ Err Memory)
fault_syntax ts Memory h at s = inr refl
fault_syntax ts (Syntax n) h at s = inl (ap (λ q. Err (Syntax q)) (one_syntax ts n at h s))
fault_syntax ts (TooDeep n) h at s = absurd (syntax_or_too_deep ts at n s h)

pub fault_too_deep : (ts : List Token) (e : ParseFault) → StandsIn e ts → (at : ℕ) → TooDeepAt MAX_LEVELS ts at
    → (failed e ≡ Err (TooDeep at)) ⊎ (failed e ≡ Err Memory)
fault_too_deep ts Memory h at s = inr refl
fault_too_deep ts (Syntax n) h at s = absurd (syntax_or_too_deep ts n at h s)
fault_too_deep ts (TooDeep n) h at s = inl (ap (λ q. Err (TooDeep q)) (one_too_deep ts n at h s))
