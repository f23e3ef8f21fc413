-- What the terminals of a file keep, its tree keeps.
use Rattle.std.proofs.Common.{◌≡◌, ℕ, Bool, true, false, ◌&&◌, List, [], ◌∷◌, ◌++◌, map, refl, sym, ap, subst, ◌∙◌, ◌||◌}
use Rattle.std.specs.Prelude.{IsTrue, nat_eq}
use Rattle.std.specs.List.{flat_map, list_all}
use Rattle.std.proofs.lemmas.Bool.{and_parts, and_from}
use Rattle.std.proofs.lemmas.List.Folds.{list_all-append}
use Rattle.ccsl_base.specs.declared.reserved.Reserved.TheVariants as w
use Rattle.ccsl_lex.specs.declared.token.Token.{Token}
use Rattle.ccsl_lex.specs.declared.token.TokenKind.{TokenKind}
use Rattle.ccsl_lex.specs.declared.token.TokenKind.TheVariants as token
use Rattle.ccsl_lex.specs.Kept.{kind_kept}
use Rattle.ccsl_ast.specs.declared.spot.Spot.{Spot}
use Rattle.ccsl_ast.specs.declared.term.Sign.{Sign}
use Rattle.ccsl_ast.specs.declared.term.Sign.TheVariants.{Plus, Minus}
use Rattle.ccsl_ast.specs.declared.term.Primary.{Primary}
use Rattle.ccsl_ast.specs.declared.term.Primary.TheVariants as prim
use Rattle.ccsl_ast.specs.declared.term.Term.{Term}
use Rattle.ccsl_ast.specs.declared.term.WordTerm.{WordTerm}
use Rattle.ccsl_ast.specs.declared.term.WordTerm.TheVariants as wterm
use Rattle.ccsl_ast.specs.declared.term.Test.{Test}
use Rattle.ccsl_ast.specs.declared.term.Test.TheVariants.{Equal, Less, Head, Ended}
use Rattle.ccsl_ast.specs.declared.term.Argument.{Argument}
use Rattle.ccsl_ast.specs.declared.term.Argument.TheVariants as arg
use Rattle.ccsl_ast.specs.declared.line.Relation.{Relation}
use Rattle.ccsl_ast.specs.declared.line.Relation.TheVariants as rel
use Rattle.ccsl_ast.specs.declared.definition.Kind.TheVariants as kind
use Rattle.ccsl_ast.specs.declared.definition.Param.{Param}
use Rattle.ccsl_ast.specs.Trees.{PlainFile, relop_in}
use Rattle.ccsl_ast.specs.Kept.{text_kept, spot_kept, number_kept, prim_kept, signed_kept, term_kept, wterm_kept, test_kept, arg_kept, relop_kept}
use Rattle.ccsl_ast.specs.Kept.{expression_kept, rline_kept, sline_kept, param_kept, member_kept, definition_kept, file_kept}
use Rattle.ccsl_grammar.specs.Terminals.{Terminal, word, name, number, seen_as, terminals}
use Rattle.ccsl_grammar.specs.Grammar.{closing, semicolon, equals, below, left_brace, right_brace, further_spelled, list_spelled, prim_spelled, signed_spelled}
use Rattle.ccsl_grammar.specs.Grammar.{term_spelled, wterm_spelled, test_spelled, arg_spelled, kind_spelled, param_spelled, relop_spelled, binop_spelled, Expr}
use Rattle.ccsl_grammar.specs.Grammar.{alone, binary, delay, await, filter, delayed, choice, Operand, named, called, never, parens, expr_spelled}
use Rattle.ccsl_grammar.specs.Grammar.{operand_spelled, expr_tree, operand_tree, Rline, define, constrain, call, rline_spelled, rline_tree, Sline, clocks, line}
use Rattle.ccsl_grammar.specs.Grammar.{clock_spelled, sline_spelled, sline_tree, Member, member_spelled, further_member, member_tree, Definition, relation}
use Rattle.ccsl_grammar.specs.Grammar.{group, definition_spelled, definition_tree, Derivation, version, system_spelled, file_spelled, file_tree}
use Rattle.ccsl_grammar.specs.Kept.{terminal_kept, kept}
use Rattle.ccsl_grammar.specs.Laws.{FileKeeps}

-- ---- lists of terminals

parts : (xs ys : List Terminal) → kept (xs ++ ys) ≡ true → (kept xs ≡ true) × (kept ys ≡ true)
parts xs ys h = and_parts (kept xs) (kept ys) (sym (list_all-append terminal_kept xs ys) ∙ h)

-- the first terminal, and those behind it
next : (t : Terminal) (ts : List Terminal) → kept (t ∷ ts) ≡ true → (terminal_kept t ≡ true) × (kept ts ≡ true)
next t ts h = and_parts (terminal_kept t) (kept ts) h

each : {C : Type 0} (spelled : C → List Terminal) (test : C → Bool) → ((c : C) → kept (spelled c) ≡ true → test c ≡ true) → (cs : List C)
    → kept (flat_map spelled cs) ≡ true → list_all test cs ≡ true
each spelled test one [] h = refl
each spelled test one (c ∷ cs) h = let p = parts (spelled c) (flat_map spelled cs) h in rw (one c p.0) (each spelled test one cs p.1)

-- the trees of derivations
each_tree : {C T : Type 0} (spelled : C → List Terminal) (tree : C → T) (test : T → Bool) → ((c : C) → kept (spelled c) ≡ true → test (tree c) ≡ true)
    → (cs : List C) → kept (flat_map spelled cs) ≡ true → list_all test (map tree cs) ≡ true
each_tree spelled tree test one [] h = refl
each_tree spelled tree test one (c ∷ cs) h = let p = parts (spelled c) (flat_map spelled cs) h in rw (one c p.0) (each_tree spelled tree test one cs p.1)

listed : {C : Type 0} (spelled : C → List Terminal) (test : C → Bool) → ((c : C) → kept (spelled c) ≡ true → test c ≡ true) → (cs : List C)
    → kept (list_spelled spelled cs) ≡ true → list_all test cs ≡ true
listed spelled test one [] h = refl
listed spelled test one (c ∷ cs) h = let p =
    parts (spelled c) (flat_map (further_spelled spelled) cs) h in rw (one c p.0) (each (further_spelled spelled) test one cs p.1)

one_more : (a : Bool) → (a && true) ≡ true → a ≡ true
one_more a h = (and_parts a true h).0

-- ---- the parts in which no expression stands

prim_keeps : (p : Primary) → kept (prim_spelled p) ≡ true → prim_kept p ≡ true
prim_keeps (prim.Num at n) h = one_more (number_kept n) h
prim_keeps (prim.Name x) h = one_more (spot_kept x) h

signed_keeps : (s : Sign × Primary) → kept (signed_spelled s) ≡ true → signed_kept s ≡ true
signed_keeps (Plus, p) h = prim_keeps p h
signed_keeps (Minus, p) h = prim_keeps p h

term_keeps : (t : Term) → kept (term_spelled t) ≡ true → term_kept t ≡ true
term_keeps t h = let p =
    parts (prim_spelled t.first) (flat_map signed_spelled t.rest) h in
    and_from (prim_kept t.first) (list_all signed_kept t.rest) (prim_keeps t.first p.0) (each signed_spelled signed_kept signed_keeps t.rest p.1)

wterm_keeps : (m : WordTerm) → kept (wterm_spelled m) ≡ true → wterm_kept m ≡ true
wterm_keeps (wterm.Text at bytes) h = one_more (text_kept bytes) h
wterm_keeps (wterm.Name x) h = one_more (spot_kept x) h
wterm_keeps (wterm.Tail x) h = one_more (spot_kept x) h

test_keeps : (q : Test) → kept (test_spelled q) ≡ true → test_kept q ≡ true
test_keeps (Equal a b) h = let p =
    parts (term_spelled a) (equals ∷ term_spelled b) h in and_from (term_kept a) (term_kept b) (term_keeps a p.0) (term_keeps b p.1)
test_keeps (Less a b) h = let p =
    parts (term_spelled a) (below ∷ term_spelled b) h in and_from (term_kept a) (term_kept b) (term_keeps a p.0) (term_keeps b p.1)
test_keeps (Head x) h = one_more (spot_kept x) h
test_keeps (Ended x) h = one_more (spot_kept x) h

arg_keeps : (a : Argument) → kept (arg_spelled a) ≡ true → arg_kept a ≡ true
arg_keeps (arg.Term t) h = term_keeps t h
arg_keeps (arg.Text at bytes) h = one_more (text_kept bytes) h
arg_keeps (arg.Tail x) h = one_more (spot_kept x) h

param_keeps : (p : Param) → kept (param_spelled p) ≡ true → param_kept p ≡ true
param_keeps p h = one_more (spot_kept p.name) (next (kind_spelled p.kind) (name p.name ∷ []) h).1

args_keep : (args : List Argument) → kept (list_spelled arg_spelled args) ≡ true → list_all arg_kept args ≡ true
args_keep = listed arg_spelled arg_kept arg_keeps

params_keep : (ps : List Param) → kept (list_spelled param_spelled ps) ≡ true → list_all param_kept ps ≡ true
params_keep = listed param_spelled param_kept param_keeps

relop_keeps : (r : Relation) → kept (relop_spelled r) ≡ true → relop_kept r ≡ true
relop_keeps (rel.PrecedesWithin at n) h = one_more (number_kept n) h
relop_keeps rel.Subclock h = refl
relop_keeps _ h = refl

-- ---- expressions

mutual
  expr_keeps : {two : Bool} (c : Expr two) → kept (expr_spelled c) ≡ true → expression_kept two (expr_tree c) ≡ true
  expr_keeps (alone o) h = operand_keeps o h
  expr_keeps (binary op v a d) h =
      let p = parts (operand_spelled a) (binop_spelled op ++ operand_spelled d) h in
      let q = parts (binop_spelled op) (operand_spelled d) p.1 in
      rw (v, operand_keeps a p.0) (operand_keeps d q.1)
  expr_keeps (delay a m) h = let p = parts (operand_spelled a) (word w.Delay ∷ term_spelled m) h in rw (operand_keeps a p.0) (term_keeps m p.1)
  expr_keeps (await a m) h = let p = parts (operand_spelled a) (word w.Await ∷ term_spelled m) h in rw (operand_keeps a p.0) (term_keeps m p.1)
  expr_keeps (filter a m) h = let p = parts (operand_spelled a) (word w.Filter ∷ wterm_spelled m) h in rw (operand_keeps a p.0) (wterm_keeps m p.1)
  expr_keeps {two} (delayed a at n d) h =
      let p = parts (operand_spelled a) (word w.Delayed ∷ number at n ∷ word w.On ∷ operand_spelled d) h in
      let q = and_parts (number_kept n) (kept (operand_spelled d)) p.1 in
      rw (operand_keeps a p.0) (and_from (number_kept n) (expression_kept two (operand_tree d)) q.0 (operand_keeps d q.1))
  expr_keeps {two} (choice q a d) h =
      let p = parts (test_spelled q) (word w.Use ∷ (expr_spelled a ++ word w.Else ∷ expr_spelled d)) h in
      let r = parts (expr_spelled a) (word w.Else ∷ expr_spelled d) p.1 in
      and_from (test_kept q) (expression_kept two (expr_tree a) && expression_kept two (expr_tree d)) (test_keeps q p.0)
      (and_from (expression_kept two (expr_tree a)) (expression_kept two (expr_tree d)) (expr_keeps a r.0) (expr_keeps d r.1))

  operand_keeps : {two : Bool} (c : Operand two) → kept (operand_spelled c) ≡ true → expression_kept two (operand_tree c) ≡ true
  operand_keeps (named x) h = one_more (spot_kept x) h
  operand_keeps (called x args) h =
      let p = and_parts (spot_kept x) (kept (list_spelled arg_spelled args ++ closing ∷ [])) h in
      and_from (spot_kept x) (list_all arg_kept args) p.0 (args_keep args (parts (list_spelled arg_spelled args) (closing ∷ []) p.1).0)
  operand_keeps never h = refl
  operand_keeps (parens e) h = expr_keeps e (parts (expr_spelled e) (closing ∷ []) h).0

-- ---- lines

rline_keeps : {two : Bool} (l : Rline two) → kept (rline_spelled l) ≡ true → rline_kept two (rline_tree l) ≡ true
rline_keeps {two} (define x e) h =
    let p = and_parts (spot_kept x) (kept (expr_spelled e ++ semicolon ∷ [])) h in
    and_from (spot_kept x) (expression_kept two (expr_tree e)) p.0 (expr_keeps e (parts (expr_spelled e) (semicolon ∷ []) p.1).0)
rline_keeps {two} (constrain a r v b) h =
    let p = and_parts (spot_kept a) (kept (relop_spelled r ++ name b ∷ semicolon ∷ [])) h in
    let q = parts (relop_spelled r) (name b ∷ semicolon ∷ []) p.1 in
    and_from (spot_kept a) (relop_in two r && (relop_kept r && spot_kept b)) p.0
    (rw (v, relop_keeps r q.0) (one_more (spot_kept b) q.1))
rline_keeps (call x args) h =
    let p = and_parts (spot_kept x) (kept (list_spelled arg_spelled args ++ closing ∷ semicolon ∷ [])) h in
    and_from (spot_kept x) (list_all arg_kept args) p.0 (args_keep args (parts (list_spelled arg_spelled args) (closing ∷ semicolon ∷ []) p.1).0)

clock_keeps : (x : Spot) → kept (clock_spelled x) ≡ true → spot_kept x ≡ true
clock_keeps x h = one_more (spot_kept x) h

sline_keeps : {two : Bool} (l : Sline two) → kept (sline_spelled l) ≡ true → sline_kept two (sline_tree l) ≡ true
sline_keeps (clocks x xs) h =
    let p = and_parts (spot_kept x) (kept (flat_map (further_spelled clock_spelled) xs ++ semicolon ∷ [])) h in
    and_from (spot_kept x) (list_all spot_kept xs) p.0
    (each (further_spelled clock_spelled) spot_kept clock_keeps xs (parts (flat_map (further_spelled clock_spelled) xs) (semicolon ∷ []) p.1).0)
sline_keeps (line l) h = rline_keeps l h

-- ---- definitions

member_keeps : {two : Bool} (m : Member two) → kept (member_spelled m) ≡ true → member_kept two (member_tree m) ≡ true
member_keeps {two} m h =
    let p = and_parts (spot_kept m.name) (kept (list_spelled param_spelled m.params ++ closing ∷ equals ∷ expr_spelled m.body)) h in
    let q = parts (list_spelled param_spelled m.params) (closing ∷ equals ∷ expr_spelled m.body) p.1 in
    and_from (spot_kept m.name) (list_all param_kept m.params && expression_kept two (expr_tree m.body)) p.0
    (and_from (list_all param_kept m.params) (expression_kept two (expr_tree m.body)) (params_keep m.params q.0) (expr_keeps m.body q.1))

definition_keeps : {two : Bool} (d : Definition two) → kept (definition_spelled d) ≡ true → definition_kept two (definition_tree d) ≡ true
definition_keeps {two} (relation x ps l ls) h =
    let p = and_parts (spot_kept x)
    (kept (list_spelled param_spelled ps ++ closing ∷ left_brace ∷ (rline_spelled l ++ (flat_map rline_spelled ls ++ right_brace ∷ [])))) h in
    let q = parts (list_spelled param_spelled ps) (closing ∷ left_brace ∷ (rline_spelled l ++ (flat_map rline_spelled ls ++ right_brace ∷ []))) p.1 in
    let r = parts (rline_spelled l) (flat_map rline_spelled ls ++ right_brace ∷ []) q.1 in
    let s = parts (flat_map rline_spelled ls) (right_brace ∷ []) r.1 in
    and_from (spot_kept x) (list_all param_kept ps && (rline_kept two (rline_tree l) && list_all (rline_kept two) (map rline_tree ls))) p.0
    (and_from (list_all param_kept ps) (rline_kept two (rline_tree l) && list_all (rline_kept two) (map rline_tree ls)) (params_keep ps q.0)
    (and_from (rline_kept two (rline_tree l)) (list_all (rline_kept two) (map rline_tree ls)) (rline_keeps l r.0)
    (each_tree rline_spelled rline_tree (rline_kept two) rline_keeps ls s.0)))
definition_keeps {two} (group m ms) h =
    let p = parts (member_spelled m) (flat_map further_member ms ++ semicolon ∷ []) h in
    let q = parts (flat_map further_member ms) (semicolon ∷ []) p.1 in
    and_from (member_kept two (member_tree m)) (list_all (member_kept two) (map member_tree ms)) (member_keeps m p.0)
    (each_tree further_member member_tree (member_kept two) member_keeps ms q.0)

-- ---- files

version_keeps : (two : Bool) → (nat_eq (version two) 1 || nat_eq (version two) 2) ≡ true
version_keeps true = refl
version_keeps false = refl

pub is_two_version : (two : Bool) → nat_eq (version two) 2 ≡ two
is_two_version true = refl
is_two_version false = refl

derivation_keeps : (d : Derivation) → kept (file_spelled d) ≡ true → file_kept (file_tree d) ≡ true
derivation_keeps d h =
    let two = d.two in
    let v = next (number d.at (version two)) (semicolon ∷ (flat_map definition_spelled d.definitions ++ system_spelled d.lines)) h in
    let p = parts (flat_map definition_spelled d.definitions) (system_spelled d.lines) v.1 in
    let q = parts (flat_map sline_spelled d.lines) (right_brace ∷ []) p.1 in
    rw (version_keeps two, is_two_version two)
    (and_from (list_all (definition_kept two) (map definition_tree d.definitions)) (list_all (sline_kept two) (map sline_tree d.lines))
    (each_tree definition_spelled definition_tree (definition_kept two) definition_keeps d.definitions p.0)
    (each_tree sline_spelled sline_tree (sline_kept two) sline_keeps d.lines q.0))

seen_kept : (k : TokenKind) (at : ℕ) → IsTrue (kind_kept k) → terminal_kept (seen_as at k) ≡ true
seen_kept (token.Name text) at h = h
seen_kept (token.Num n) at h = h
seen_kept (token.Quoted text) at h = h
seen_kept (token.Word v) at h = refl
seen_kept (token.Symbol b) at h = refl

tokens_kept : (ts : List Token) → kept (terminals ts) ≡ true
tokens_kept [] = refl
tokens_kept (t ∷ ts) = and_from (terminal_kept (seen_as t.at t.kind)) (kept (terminals ts)) (seen_kept t.kind t.at t.kept) (tokens_kept ts)

pub file_keeps : FileKeeps
file_keeps ts f i = subst (λ (f : PlainFile). IsTrue (file_kept f)) i.tree (derivation_keeps i.derivation (ap kept i.spelled ∙ tokens_kept ts))
