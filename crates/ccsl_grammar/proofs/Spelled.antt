-- What holds of every terminal that a kept file may have holds of its canonical terminals.
use Rattle.std.proofs.Common.{◌≡◌, ℕ, Bool, true, false, ◌&&◌, List, [], ◌∷◌, ◌++◌, map, refl, sym, ap, ◌∙◌, ◌||◌}
use Rattle.std.specs.Prelude.{nat_eq}
use Rattle.std.specs.List.{flat_map, list_all, list_any}
use Rattle.std.proofs.lemmas.Bool.{and_parts, and_from}
use Rattle.std.proofs.lemmas.List.Folds.{list_all-append}
use Rattle.ccsl_base.specs.declared.reserved.Reserved.{Reserved}
use Rattle.ccsl_base.specs.declared.reserved.Reserved.TheVariants as w
use Rattle.ccsl_ast.specs.declared.spot.Spot.{Spot}
use Rattle.ccsl_ast.specs.declared.term.Sign.{Sign}
use Rattle.ccsl_ast.specs.declared.term.Sign.TheVariants.{Plus, Minus}
use Rattle.ccsl_ast.specs.declared.term.Primary.{Primary}
use Rattle.ccsl_ast.specs.declared.term.Primary.TheVariants as prim
use Rattle.ccsl_ast.specs.declared.term.Term.{Term}
use Rattle.ccsl_ast.specs.declared.term.WordTerm.{WordTerm}
use Rattle.ccsl_ast.specs.declared.term.WordTerm.TheVariants as wterm
use Rattle.ccsl_ast.specs.declared.term.Test.{Test}
use Rattle.ccsl_ast.specs.declared.term.Test.TheVariants.{Equal, Less, Head, Ended}
use Rattle.ccsl_ast.specs.declared.term.Argument.{Argument}
use Rattle.ccsl_ast.specs.declared.term.Argument.TheVariants as arg
use Rattle.ccsl_ast.specs.declared.tree.BinaryOp.{BinaryOp}
use Rattle.ccsl_ast.specs.declared.tree.BinaryOp.TheVariants as op
use Rattle.ccsl_ast.specs.declared.line.Relation.{Relation}
use Rattle.ccsl_ast.specs.declared.line.Relation.TheVariants as rel
use Rattle.ccsl_ast.specs.declared.definition.Kind.{Kind}
use Rattle.ccsl_ast.specs.declared.definition.Kind.TheVariants as kind
use Rattle.ccsl_ast.specs.declared.definition.Param.{Param}
use Rattle.ccsl_ast.specs.Trees.{PlainFile, binop_in, relop_in}
use Rattle.ccsl_ast.specs.Kept.{text_kept, spot_kept, number_kept, prim_kept, signed_kept, term_kept, wterm_kept, test_kept, arg_kept, relop_kept}
use Rattle.ccsl_ast.specs.Kept.{expression_kept, rline_kept, sline_kept, param_kept, member_kept, definition_kept, is_two, file_kept}
use Rattle.ccsl_grammar.specs.Terminals.{Terminal, word, symbol, name, number, quoted}
use Rattle.ccsl_grammar.specs.Grammar.{opening, closing, semicolon, equals, left_brace, right_brace, further_spelled, list_spelled, prim_spelled}
use Rattle.ccsl_grammar.specs.Grammar.{signed_spelled, term_spelled, wterm_spelled, test_spelled, arg_spelled, kind_spelled, param_spelled, relop_spelled}
use Rattle.ccsl_grammar.specs.Grammar.{binop_spelled, Expr, alone, binary, delay, await, filter, delayed, choice, Operand, named, called, never, parens}
use Rattle.ccsl_grammar.specs.Grammar.{expr_spelled, operand_spelled, expr_tree, operand_tree, Rline, define, constrain, call, rline_spelled, rline_tree, Sline}
use Rattle.ccsl_grammar.specs.Grammar.{clocks, line, clock_spelled, sline_spelled, sline_tree, Member, member_spelled, further_member, member_tree, Definition}
use Rattle.ccsl_grammar.specs.Grammar.{relation, group, definition_spelled, definition_tree, Derivation, version, system_spelled, file_spelled, file_tree}
use Rattle.ccsl_grammar.specs.Canonical.{canonical_terminals}
use Rattle.ccsl_grammar.specs.Kept.{terminal_kept}
use Rattle.ccsl_grammar.specs.Laws.{CanonicalKeeps}
use Rattle.ccsl_grammar.proofs.Canonical.{file_canonical}
use Rattle.ccsl_grammar.proofs.Keeps.{is_two_version}

-- the bytes of ( ) + , - ; < = { }
abbrev pub is_mark : ℕ → Bool
is_mark b = list_any (nat_eq b) (40 ∷ 41 ∷ 43 ∷ 44 ∷ 45 ∷ 59 ∷ 60 ∷ 61 ∷ 123 ∷ 125 ∷ [])

-- the test holds of every terminal that a kept file may have
pub record Holds (test : Terminal → Bool) : Type 0 where
  pub words : (v : Reserved) → test (word v) ≡ true
  pub marks : (b : ℕ) → is_mark b ≡ true → test (symbol b) ≡ true
  pub names : (x : Spot) → spot_kept x ≡ true → test (name x) ≡ true
  pub numbers : (at n : ℕ) → number_kept n ≡ true → test (number at n) ≡ true
  pub texts : (at : ℕ) (bytes : List ℕ) → text_kept bytes ≡ true → test (quoted at bytes) ≡ true

module _ (test : Terminal → Bool) (h : Holds test) where
  abbrev all : List Terminal → Bool
  all ts = list_all test ts

  join : (xs ys : List Terminal) → all xs ≡ true → all ys ≡ true → all (xs ++ ys) ≡ true
  join xs ys p q = list_all-append test xs ys ∙ and_from (all xs) (all ys) p q

  -- a word, a symbol, a name in front
  worded : (v : Reserved) (ts : List Terminal) → all ts ≡ true → all (word v ∷ ts) ≡ true
  worded v ts p = and_from (test (word v)) (all ts) (h.words v) p

  marked : (b : ℕ) (ts : List Terminal) → is_mark b ≡ true → all ts ≡ true → all (symbol b ∷ ts) ≡ true
  marked b ts m p = and_from (test (symbol b)) (all ts) (h.marks b m) p

  named_by : (x : Spot) (ts : List Terminal) → spot_kept x ≡ true → all ts ≡ true → all (name x ∷ ts) ≡ true
  named_by x ts k p = and_from (test (name x)) (all ts) (h.names x k) p

  numbered : (at n : ℕ) (ts : List Terminal) → number_kept n ≡ true → all ts ≡ true → all (number at n ∷ ts) ≡ true
  numbered at n ts k p = and_from (test (number at n)) (all ts) (h.numbers at n k) p

  each : {C T : Type 0} (spelled : C → List Terminal) (tree : C → T) (kept : T → Bool) → ((c : C) → kept (tree c) ≡ true → all (spelled c) ≡ true)
      → (cs : List C) → list_all kept (map tree cs) ≡ true → all (flat_map spelled cs) ≡ true
  each spelled tree kept one [] k = refl
  each spelled tree kept one (c ∷ cs) k = let p =
      and_parts (kept (tree c)) (list_all kept (map tree cs)) k in join (spelled c) (flat_map spelled cs) (one c p.0) (each spelled tree kept one cs p.1)

  -- parts that are their own trees
  each_part : {C : Type 0} (spelled : C → List Terminal) (kept : C → Bool) → ((c : C) → kept c ≡ true → all (spelled c) ≡ true) → (cs : List C)
      → list_all kept cs ≡ true → all (flat_map spelled cs) ≡ true
  each_part spelled kept one [] k = refl
  each_part spelled kept one (c ∷ cs) k = let p =
      and_parts (kept c) (list_all kept cs) k in join (spelled c) (flat_map spelled cs) (one c p.0) (each_part spelled kept one cs p.1)

  furthers : {C : Type 0} (spelled : C → List Terminal) (kept : C → Bool) → ((c : C) → kept c ≡ true → all (spelled c) ≡ true) → (cs : List C)
      → list_all kept cs ≡ true → all (flat_map (further_spelled spelled) cs) ≡ true
  furthers spelled kept one = each_part (further_spelled spelled) kept (λ c k. marked 44 (spelled c) refl (one c k))

  listed : {C : Type 0} (spelled : C → List Terminal) (kept : C → Bool) → ((c : C) → kept c ≡ true → all (spelled c) ≡ true) → (cs : List C)
      → list_all kept cs ≡ true → all (list_spelled spelled cs) ≡ true
  listed spelled kept one [] k = refl
  listed spelled kept one (c ∷ cs) k = let p =
      and_parts (kept c) (list_all kept cs) k in join (spelled c) (flat_map (further_spelled spelled) cs) (one c p.0) (furthers spelled kept one cs p.1)

  -- ---- the parts in which no expression stands

  prim_all : (p : Primary) → prim_kept p ≡ true → all (prim_spelled p) ≡ true
  prim_all (prim.Num at n) k = numbered at n [] k refl
  prim_all (prim.Name x) k = named_by x [] k refl

  signed_all : (s : Sign × Primary) → signed_kept s ≡ true → all (signed_spelled s) ≡ true
  signed_all (Plus, p) k = marked 43 (prim_spelled p) refl (prim_all p k)
  signed_all (Minus, p) k = marked 45 (prim_spelled p) refl (prim_all p k)

  term_all : (t : Term) → term_kept t ≡ true → all (term_spelled t) ≡ true
  term_all t k =
      let p = and_parts (prim_kept t.first) (list_all signed_kept t.rest) k in
      join (prim_spelled t.first) (flat_map signed_spelled t.rest) (prim_all t.first p.0) (each_part signed_spelled signed_kept signed_all t.rest p.1)

  word_name : (v : Reserved) (x : Spot) → spot_kept x ≡ true → all (word v ∷ name x ∷ []) ≡ true
  word_name v x k = worded v (name x ∷ []) (named_by x [] k refl)

  text_all : (at : ℕ) (bytes : List ℕ) → text_kept bytes ≡ true → all (quoted at bytes ∷ []) ≡ true
  text_all at bytes k = and_from (test (quoted at bytes)) true (h.texts at bytes k) refl

  wterm_all : (m : WordTerm) → wterm_kept m ≡ true → all (wterm_spelled m) ≡ true
  wterm_all (wterm.Text at bytes) k = text_all at bytes k
  wterm_all (wterm.Name x) k = named_by x [] k refl
  wterm_all (wterm.Tail x) k = word_name w.Tail x k

  compared : (b : ℕ) (a d : Term) → is_mark b ≡ true → (term_kept a && term_kept d) ≡ true → all (term_spelled a ++ symbol b ∷ term_spelled d) ≡ true
  compared b a d m k = let p =
      and_parts (term_kept a) (term_kept d) k in
      join (term_spelled a) (symbol b ∷ term_spelled d) (term_all a p.0) (marked b (term_spelled d) m (term_all d p.1))

  test_all : (q : Test) → test_kept q ≡ true → all (test_spelled q) ≡ true
  test_all (Equal a b) k = compared 61 a b refl k
  test_all (Less a b) k = compared 60 a b refl k
  test_all (Head x) k = word_name w.Head x k
  test_all (Ended x) k = word_name w.Ended x k

  arg_all : (a : Argument) → arg_kept a ≡ true → all (arg_spelled a) ≡ true
  arg_all (arg.Term t) k = term_all t k
  arg_all (arg.Text at bytes) k = text_all at bytes k
  arg_all (arg.Tail x) k = word_name w.Tail x k

  args_all : (args : List Argument) → list_all arg_kept args ≡ true → all (list_spelled arg_spelled args) ≡ true
  args_all = listed arg_spelled arg_kept arg_all

  param_all : (p : Param) → param_kept p ≡ true → all (param_spelled p) ≡ true
  param_all p k = and_from (test (kind_spelled p.kind)) (all (name p.name ∷ [])) (kind_test p.kind) (named_by p.name [] k refl)
    where
      kind_test : (k : Kind) → test (kind_spelled k) ≡ true
      kind_test kind.Clock = h.words w.Clock
      kind_test kind.Number = h.words w.Number
      kind_test kind.Word = h.words w.Word

  params_all : (ps : List Param) → list_all param_kept ps ≡ true → all (list_spelled param_spelled ps) ≡ true
  params_all = listed param_spelled param_kept param_all

  relop_all : (r : Relation) → relop_kept r ≡ true → all (relop_spelled r) ≡ true
  relop_all rel.Subclock k = worded w.Subclock [] refl
  relop_all rel.Coincides k = worded w.Coincides [] refl
  relop_all rel.Excludes k = worded w.Excludes [] refl
  relop_all rel.Precedes k = worded w.Precedes [] refl
  relop_all rel.PrecedesWeakly k = worded w.Precedes (word w.Weakly ∷ []) (worded w.Weakly [] refl)
  relop_all (rel.PrecedesWithin at n) k = worded w.Precedes (word w.Within ∷ number at n ∷ []) (worded w.Within (number at n ∷ []) (numbered at n [] k refl))

  binop_all : (o : BinaryOp) → all (binop_spelled o) ≡ true
  binop_all op.Union = worded w.Union [] refl
  binop_all op.Inter = worded w.Inter [] refl
  binop_all op.Minus = worded w.Minus [] refl
  binop_all op.Inf = worded w.Inf [] refl
  binop_all op.Sup = worded w.Sup [] refl
  binop_all op.Upto = worded w.Upto [] refl
  binop_all op.UptoWeakly = worded w.Upto (word w.Weakly ∷ []) (worded w.Weakly [] refl)
  binop_all op.Then = worded w.Then [] refl
  binop_all op.Sampled = worded w.Sampled (word w.On ∷ []) (worded w.On [] refl)
  binop_all op.SampledWeakly = worded w.Sampled (word w.Weakly ∷ word w.On ∷ []) (worded w.Weakly (word w.On ∷ []) (worded w.On [] refl))

  -- ---- expressions

  mutual
    expr_all : {two : Bool} (c : Expr two) → expression_kept two (expr_tree c) ≡ true → all (expr_spelled c) ≡ true
    expr_all (alone o) k = operand_all o k
    expr_all {two} (binary op v a d) k =
        let p = and_parts (binop_in two op) (expression_kept two (operand_tree a) && expression_kept two (operand_tree d)) k in
        let q = and_parts (expression_kept two (operand_tree a)) (expression_kept two (operand_tree d)) p.1 in
        join (operand_spelled a) (binop_spelled op ++ operand_spelled d) (operand_all a q.0)
        (join (binop_spelled op) (operand_spelled d) (binop_all op) (operand_all d q.1))
    expr_all {two} (delay a m) k =
        let p = and_parts (expression_kept two (operand_tree a)) (term_kept m) k in
        join (operand_spelled a) (word w.Delay ∷ term_spelled m) (operand_all a p.0) (worded w.Delay (term_spelled m) (term_all m p.1))
    expr_all {two} (await a m) k =
        let p = and_parts (expression_kept two (operand_tree a)) (term_kept m) k in
        join (operand_spelled a) (word w.Await ∷ term_spelled m) (operand_all a p.0) (worded w.Await (term_spelled m) (term_all m p.1))
    expr_all {two} (filter a m) k =
        let p = and_parts (expression_kept two (operand_tree a)) (wterm_kept m) k in
        join (operand_spelled a) (word w.Filter ∷ wterm_spelled m) (operand_all a p.0) (worded w.Filter (wterm_spelled m) (wterm_all m p.1))
    expr_all {two} (delayed a at n d) k =
        let p = and_parts (expression_kept two (operand_tree a)) (number_kept n && expression_kept two (operand_tree d)) k in
        let q = and_parts (number_kept n) (expression_kept two (operand_tree d)) p.1 in
        join (operand_spelled a) (word w.Delayed ∷ number at n ∷ word w.On ∷ operand_spelled d) (operand_all a p.0)
        (worded w.Delayed (number at n ∷ word w.On ∷ operand_spelled d)
        (numbered at n (word w.On ∷ operand_spelled d) q.0 (worded w.On (operand_spelled d) (operand_all d q.1))))
    expr_all {two} (choice q a d) k =
        let p = and_parts (test_kept q) (expression_kept two (expr_tree a) && expression_kept two (expr_tree d)) k in
        let r = and_parts (expression_kept two (expr_tree a)) (expression_kept two (expr_tree d)) p.1 in
        worded w.If (test_spelled q ++ word w.Use ∷ (expr_spelled a ++ word w.Else ∷ expr_spelled d))
        (join (test_spelled q) (word w.Use ∷ (expr_spelled a ++ word w.Else ∷ expr_spelled d)) (test_all q p.0)
        (worded w.Use (expr_spelled a ++ word w.Else ∷ expr_spelled d)
        (join (expr_spelled a) (word w.Else ∷ expr_spelled d) (expr_all a r.0) (worded w.Else (expr_spelled d) (expr_all d r.1)))))

    operand_all : {two : Bool} (c : Operand two) → expression_kept two (operand_tree c) ≡ true → all (operand_spelled c) ≡ true
    operand_all (named x) k = named_by x [] k refl
    operand_all (called x args) k =
        let p = and_parts (spot_kept x) (list_all arg_kept args) k in
        named_by x (opening ∷ (list_spelled arg_spelled args ++ closing ∷ [])) p.0
        (marked 40 (list_spelled arg_spelled args ++ closing ∷ []) refl
        (join (list_spelled arg_spelled args) (closing ∷ []) (args_all args p.1) (marked 41 [] refl refl)))
    operand_all never k = worded w.Never [] refl
    operand_all (parens e) k = marked 40 (expr_spelled e ++ closing ∷ []) refl (join (expr_spelled e) (closing ∷ []) (expr_all e k) (marked 41 [] refl refl))

  -- ---- lines, definitions, files

  ended : {two : Bool} (e : Expr two) → expression_kept two (expr_tree e) ≡ true → all (expr_spelled e ++ semicolon ∷ []) ≡ true
  ended e k = join (expr_spelled e) (semicolon ∷ []) (expr_all e k) (marked 59 [] refl refl)

  rline_all : {two : Bool} (l : Rline two) → rline_kept two (rline_tree l) ≡ true → all (rline_spelled l) ≡ true
  rline_all {two} (define x e) k =
      let p = and_parts (spot_kept x) (expression_kept two (expr_tree e)) k in
      worded w.Define (name x ∷ equals ∷ (expr_spelled e ++ semicolon ∷ []))
      (named_by x (equals ∷ (expr_spelled e ++ semicolon ∷ [])) p.0 (marked 61 (expr_spelled e ++ semicolon ∷ []) refl (ended e p.1)))
  rline_all {two} (constrain a r v b) k =
      let p = and_parts (spot_kept a) (relop_in two r && (relop_kept r && spot_kept b)) k in
      let q = and_parts (relop_in two r) (relop_kept r && spot_kept b) p.1 in
      let s = and_parts (relop_kept r) (spot_kept b) q.1 in
      named_by a (relop_spelled r ++ name b ∷ semicolon ∷ []) p.0
      (join (relop_spelled r) (name b ∷ semicolon ∷ []) (relop_all r s.0) (named_by b (semicolon ∷ []) s.1 (marked 59 [] refl refl)))
  rline_all (call x args) k =
      let p = and_parts (spot_kept x) (list_all arg_kept args) k in
      named_by x (opening ∷ (list_spelled arg_spelled args ++ closing ∷ semicolon ∷ [])) p.0
      (marked 40 (list_spelled arg_spelled args ++ closing ∷ semicolon ∷ []) refl
      (join (list_spelled arg_spelled args) (closing ∷ semicolon ∷ []) (args_all args p.1) (marked 41 (semicolon ∷ []) refl (marked 59 [] refl refl))))

  sline_all : {two : Bool} (l : Sline two) → sline_kept two (sline_tree l) ≡ true → all (sline_spelled l) ≡ true
  sline_all (clocks x xs) k =
      let p = and_parts (spot_kept x) (list_all spot_kept xs) k in
      let furthers_all : all (flat_map (further_spelled clock_spelled) xs) ≡ true = furthers clock_spelled spot_kept (λ y i. named_by y [] i refl) xs p.1 in
      worded w.Clock (name x ∷ (flat_map (further_spelled clock_spelled) xs ++ semicolon ∷ []))
      (named_by x (flat_map (further_spelled clock_spelled) xs ++ semicolon ∷ []) p.0
      (join (flat_map (further_spelled clock_spelled) xs) (semicolon ∷ []) furthers_all (marked 59 [] refl refl)))
  sline_all (line l) k = rline_all l k

  member_all : {two : Bool} (m : Member two) → member_kept two (member_tree m) ≡ true → all (member_spelled m) ≡ true
  member_all {two} m k =
      let p = and_parts (spot_kept m.name) (list_all param_kept m.params && expression_kept two (expr_tree m.body)) k in
      let q = and_parts (list_all param_kept m.params) (expression_kept two (expr_tree m.body)) p.1 in
      let rest : List Terminal = closing ∷ equals ∷ expr_spelled m.body in
      named_by m.name (opening ∷ (list_spelled param_spelled m.params ++ rest)) p.0 (marked 40 (list_spelled param_spelled m.params ++ rest) refl
      (join (list_spelled param_spelled m.params) rest (params_all m.params q.0)
      (marked 41 (equals ∷ expr_spelled m.body) refl (marked 61 (expr_spelled m.body) refl (expr_all m.body q.1)))))

  definition_all : {two : Bool} (d : Definition two) → definition_kept two (definition_tree d) ≡ true → all (definition_spelled d) ≡ true
  definition_all {two} (relation x ps l ls) k =
      let p = and_parts (spot_kept x) (list_all param_kept ps && (rline_kept two (rline_tree l) && list_all (rline_kept two) (map rline_tree ls))) k in
      let q = and_parts (list_all param_kept ps) (rline_kept two (rline_tree l) && list_all (rline_kept two) (map rline_tree ls)) p.1 in
      let r = and_parts (rline_kept two (rline_tree l)) (list_all (rline_kept two) (map rline_tree ls)) q.1 in
      let body : List Terminal = rline_spelled l ++ (flat_map rline_spelled ls ++ right_brace ∷ []) in
      let body_all : all body ≡ true = join (rline_spelled l) (flat_map rline_spelled ls ++ right_brace ∷ []) (rline_all l r.0)
      (join (flat_map rline_spelled ls) (right_brace ∷ []) (each rline_spelled rline_tree (rline_kept two) rline_all ls r.1) (marked 125 [] refl refl)) in
      worded w.Relation (name x ∷ opening ∷ (list_spelled param_spelled ps ++ closing ∷ left_brace ∷ body))
      (named_by x (opening ∷ (list_spelled param_spelled ps ++ closing ∷ left_brace ∷ body)) p.0
      (marked 40 (list_spelled param_spelled ps ++ closing ∷ left_brace ∷ body) refl
      (join (list_spelled param_spelled ps) (closing ∷ left_brace ∷ body) (params_all ps q.0)
      (marked 41 (left_brace ∷ body) refl (marked 123 body refl body_all)))))
  definition_all {two} (group m ms) k =
      let p = and_parts (member_kept two (member_tree m)) (list_all (member_kept two) (map member_tree ms)) k in
      let furthers_all : all (flat_map further_member ms) ≡ true =
      each further_member member_tree (member_kept two) (λ c i. worded w.And (member_spelled c) (member_all c i)) ms p.1 in
      worded w.Expression (member_spelled m ++ (flat_map further_member ms ++ semicolon ∷ []))
      (join (member_spelled m) (flat_map further_member ms ++ semicolon ∷ []) (member_all m p.0)
      (join (flat_map further_member ms) (semicolon ∷ []) furthers_all (marked 59 [] refl refl)))

  version_all : (at : ℕ) (two : Bool) (ts : List Terminal) → all ts ≡ true → all (number at (version two) ∷ ts) ≡ true
  version_all at true ts p = numbered at 2 ts refl p
  version_all at false ts p = numbered at 1 ts refl p

  derivation_all : (d : Derivation) → list_all (definition_kept d.two) (map definition_tree d.definitions) ≡ true
      → list_all (sline_kept d.two) (map sline_tree d.lines) ≡ true → all (file_spelled d) ≡ true
  derivation_all d p q =
      let two = d.two in
      let lines : List Terminal = flat_map sline_spelled d.lines ++ right_brace ∷ [] in
      let lines_all : all lines ≡ true =
      join (flat_map sline_spelled d.lines) (right_brace ∷ []) (each sline_spelled sline_tree (sline_kept two) sline_all d.lines q)
      (marked 125 [] refl refl) in
      let body : List Terminal = flat_map definition_spelled d.definitions ++ system_spelled d.lines in
      let body_all : all body ≡ true =
      join (flat_map definition_spelled d.definitions) (system_spelled d.lines)
      (each definition_spelled definition_tree (definition_kept two) definition_all d.definitions p)
      (worded w.System (left_brace ∷ lines) (marked 123 lines refl lines_all)) in
      worded w.Ccsl (number d.at (version two) ∷ semicolon ∷ body) (version_all d.at two (semicolon ∷ body) (marked 59 body refl body_all))

  -- the parts of a kept file
  derivation_parts : (d : Derivation) → file_kept (file_tree d) ≡ true → all (file_spelled d) ≡ true
  derivation_parts d k =
      let f = file_tree d in
      let p = and_parts (nat_eq f.version 1 || is_two f) (list_all (definition_kept (is_two f)) f.definitions && list_all (sline_kept (is_two f)) f.lines) k in
      let q = and_parts (list_all (definition_kept (is_two f)) f.definitions) (list_all (sline_kept (is_two f)) f.lines) p.1 in
      let e = is_two_version d.two in
      derivation_all d (ap (λ b. list_all (definition_kept b) f.definitions) (sym e) ∙ q.0) (ap (λ b. list_all (sline_kept b) f.lines) (sym e) ∙ q.1)

  pub canonical_all : (f : PlainFile) → file_kept f ≡ true → list_all test (canonical_terminals f) ≡ true
  canonical_all f k =
      let c = file_canonical f k in
      ap all (sym c.spelled_is) ∙ derivation_parts c.whole (ap file_kept c.tree_is ∙ k)

pub canonical_keeps : CanonicalKeeps
canonical_keeps f k = canonical_all terminal_kept (record {
  words = λ v. refl;
  marks = λ b m. refl;
  names = λ x k. k;
  numbers = λ at n k. k;
  texts =
      λ at bytes k. k;
}) f k
