-- The canonical terminals of a file have a derivation. Its tree is the file, and it is as deep as the file.
use Rattle.std.proofs.Common.{◌≡◌, ℕ, Bool, true, false, ◌&&◌, ◌||◌, List, [], ◌∷◌, ◌++◌, map, refl, sym, ap, ◌∙◌, append_assoc, inl, inr, arith}
use Rattle.std.specs.Prelude.{nat_eq}
use Rattle.std.specs.List.{flat_map, list_all}
use Rattle.std.proofs.lemmas.Bool.{eqb-true, and_parts, or_cases}
use Rattle.std.proofs.lemmas.List.{append-nil}
use Rattle.std.proofs.lemmas.Grind.{flat_map-append}
use Rattle.ccsl_base.specs.declared.reserved.Reserved.TheVariants as w
use Rattle.ccsl_ast.specs.declared.spot.Spot.{Spot}
use Rattle.ccsl_ast.specs.declared.definition.Param.{Param}
use Rattle.ccsl_ast.specs.Trees.{Expression, EName, ECall, ENever, EBinary, EDelay, EAwait, EFilter, EDelayed, EIf, Line, LDefine, LConstraint, LCall, SLine}
use Rattle.ccsl_ast.specs.Trees.{SClocks, SLineOf, PlainMember, PlainDefinition, DRelation, DGroup, PlainFile, binop_in, relop_in}
use Rattle.ccsl_ast.specs.Depth as tree
use Rattle.ccsl_ast.specs.Depth.{stands_in_parens, depth, greatest}
use Rattle.ccsl_ast.specs.Kept.{spot_kept, number_kept, term_kept, wterm_kept, test_kept, relop_kept, expression_kept, rline_kept, sline_kept, param_kept}
use Rattle.ccsl_ast.specs.Kept.{member_kept, definition_kept, is_two, file_kept}
use Rattle.ccsl_grammar.specs.Terminals.{Terminal, word, name, number}
use Rattle.ccsl_grammar.specs.Grammar.{opening, closing, semicolon, left_brace, right_brace, params_spelled, alone, binary, delay, await, filter, delayed}
use Rattle.ccsl_grammar.specs.Grammar.{choice, named, called, never, parens, expr_spelled, operand_spelled, expr_tree, operand_tree, define, constrain, call}
use Rattle.ccsl_grammar.specs.Grammar.{rline_spelled, rline_tree, clocks, line, sline_spelled, sline_tree, member_spelled, further_member, member_tree}
use Rattle.ccsl_grammar.specs.Grammar.{relation, group, definition_spelled, definition_tree, version, file_spelled, file_tree}
use Rattle.ccsl_grammar.specs.Canonical.{operand_tokens, expr_tokens, rline_tokens, sline_tokens, member_tokens, further_tokens, TextLine, body_lines}
use Rattle.ccsl_grammar.specs.Canonical.{definition_lines, system_lines, canonical_terminals}
use Rattle.ccsl_grammar.specs.Laws.{CanonicalParses}
use Rattle.ccsl_grammar.proofs.Depth.{expr_depth, operand_depth, rline_depth, sline_depth, member_depth, definition_depth, derivation_depth, file_shallow}

-- a derivation of the terminals, with the tree t and the depth n
pub record Derives {C T : Type 0} (spelled : C → List Terminal) (tree : C → T) (depth : C → ℕ) (ts : List Terminal) (t : T) (n : ℕ) : Type 0 where
  pub whole : C
  pub spelled_is : spelled whole ≡ ts
  pub tree_is : tree whole ≡ t
  pub depth_is : depth whole ≡ n

-- ---- expressions

module _ (two : Bool) where
  record Canonical (e : Expression) : Type 0 where
    expr : Derives (expr_spelled {two = two}) expr_tree expr_depth (expr_tokens e) e (depth e)
    operand : Derives (operand_spelled {two = two}) operand_tree operand_depth (operand_tokens e (expr_tokens e)) e (tree.operand_depth e (depth e))

  in_parens : (e : Expression) → stands_in_parens e ≡ true → Derives (expr_spelled {two = two}) expr_tree expr_depth (expr_tokens e) e (depth e) → Canonical e
  in_parens e p c = record {
    expr = c;
    operand = record { whole = parens c.whole; spelled_is = rw (p, c.spelled_is) refl; tree_is = c.tree_is; depth_is = rw p c.depth_is };
  }

  canonical : (e : Expression) → expression_kept two e ≡ true → Canonical e
  canonical (EName x) k = record {
    expr = record { whole = alone (named x); spelled_is = refl; tree_is = refl; depth_is = refl };
    operand = record { whole = named x; spelled_is = refl; tree_is = refl; depth_is = refl };
  }
  canonical (ECall x args) k = record {
    expr = record { whole = alone (called x args); spelled_is = refl; tree_is = refl; depth_is = refl };
    operand = record { whole = called x args; spelled_is = refl; tree_is = refl; depth_is = refl };
  }
  canonical ENever k = record {
    expr = record { whole = alone never; spelled_is = refl; tree_is = refl; depth_is = refl };
    operand = record { whole = never; spelled_is = refl; tree_is = refl; depth_is = refl };
  }
  canonical (EBinary op a d) k =
      let p = and_parts (binop_in two op) (expression_kept two a && expression_kept two d) k in
      let q = and_parts (expression_kept two a) (expression_kept two d) p.1 in
      let x = (canonical a q.0).operand in
      let y = (canonical d q.1).operand in
      in_parens (EBinary op a d) refl (record {
        whole = binary op p.0 x.whole y.whole;
        spelled_is = rw (x.spelled_is, y.spelled_is) refl;
        tree_is =
            rw (x.tree_is, y.tree_is) refl;
        depth_is = rw (x.depth_is, y.depth_is) (omega arith);
      })
  canonical (EDelay a m) k =
      let x = (canonical a (and_parts (expression_kept two a) (term_kept m) k).0).operand in
      in_parens (EDelay a m) refl (record {
        whole = delay x.whole m;
        spelled_is = rw x.spelled_is refl;
        tree_is = rw x.tree_is refl;
        depth_is =
            rw x.depth_is (omega arith);
      })
  canonical (EAwait a m) k =
      let x = (canonical a (and_parts (expression_kept two a) (term_kept m) k).0).operand in
      in_parens (EAwait a m) refl (record {
        whole = await x.whole m;
        spelled_is = rw x.spelled_is refl;
        tree_is = rw x.tree_is refl;
        depth_is =
            rw x.depth_is (omega arith);
      })
  canonical (EFilter a m) k =
      let x = (canonical a (and_parts (expression_kept two a) (wterm_kept m) k).0).operand in
      in_parens (EFilter a m) refl (record {
        whole = filter x.whole m;
        spelled_is = rw x.spelled_is refl;
        tree_is = rw x.tree_is refl;
        depth_is =
            rw x.depth_is (omega arith);
      })
  canonical (EDelayed a at n d) k =
      let p = and_parts (expression_kept two a) (number_kept n && expression_kept two d) k in
      let q = and_parts (number_kept n) (expression_kept two d) p.1 in
      let x = (canonical a p.0).operand in
      let y = (canonical d q.1).operand in
      in_parens (EDelayed a at n d) refl (record {
        whole = delayed x.whole at n y.whole;
        spelled_is = rw (x.spelled_is, y.spelled_is) refl;
        tree_is =
            rw (x.tree_is, y.tree_is) refl;
        depth_is = rw (x.depth_is, y.depth_is) (omega arith);
      })
  canonical (EIf q a d) k =
      let p = and_parts (test_kept q) (expression_kept two a && expression_kept two d) k in
      let r = and_parts (expression_kept two a) (expression_kept two d) p.1 in
      let x = (canonical a r.0).expr in
      let y = (canonical d r.1).expr in
      in_parens (EIf q a d) refl (record {
        whole = choice q x.whole y.whole;
        spelled_is = rw (x.spelled_is, y.spelled_is) refl;
        tree_is =
            rw (x.tree_is, y.tree_is) refl;
        depth_is = rw (x.depth_is, y.depth_is) (omega arith);
      })

-- ---- lists

module _ {C T : Type 0} (spelled : C → List Terminal) (tree : C → T) (depth : C → ℕ) (tokens : T → List Terminal) (level : T → ℕ) (test : T → Bool)
    (one : (t : T) → test t ≡ true → Derives spelled tree depth (tokens t) t (level t)) where
  each : (ts : List T) → list_all test ts ≡ true
      → Derives (flat_map spelled) (map tree) (λ cs. greatest (map depth cs)) (flat_map tokens ts) ts (greatest (map level ts))
  each [] k = record { whole = []; spelled_is = refl; tree_is = refl; depth_is = refl }
  each (t ∷ ts) k =
      let p = and_parts (test t) (list_all test ts) k in
      let x = one t p.0 in
      let y = each ts p.1 in
      record {
        whole = x.whole ∷ y.whole;
        spelled_is = rw (x.spelled_is, y.spelled_is) refl;
        tree_is = rw (x.tree_is, y.tree_is) refl;
        depth_is =
            rw (x.depth_is, y.depth_is) refl;
      }

-- ---- the terminals of lines

abbrev tokens_in : List TextLine → List Terminal
tokens_in ls = flat_map (λ l. l.tokens) ls

body_tokens : {A : Type 0} (tokens : A → List Terminal) (ls : List A) → tokens_in (body_lines tokens ls) ≡ flat_map tokens ls ++ right_brace ∷ []
body_tokens tokens [] = refl
body_tokens tokens (l ∷ ls) = ap (λ z. tokens l ++ z) (body_tokens tokens ls) ∙ sym (append_assoc (tokens l) (flat_map tokens ls) (right_brace ∷ []))

-- ---- lines

module _ (two : Bool) where
  rline_canonical : (l : Line) → rline_kept two l ≡ true → Derives (rline_spelled {two = two}) rline_tree rline_depth (rline_tokens l) l (tree.rline_depth l)
  rline_canonical (LDefine x e) k =
      let c = (canonical two e (and_parts (spot_kept x) (expression_kept two e) k).1).expr in
      record { whole = define x c.whole; spelled_is = rw c.spelled_is refl; tree_is = rw c.tree_is refl; depth_is = c.depth_is }
  rline_canonical (LConstraint a r b) k =
      let p = and_parts (spot_kept a) (relop_in two r && (relop_kept r && spot_kept b)) k in
      let q = and_parts (relop_in two r) (relop_kept r && spot_kept b) p.1 in
      record { whole = constrain a r q.0 b; spelled_is = refl; tree_is = refl; depth_is = refl }
  rline_canonical (LCall x args) k = record { whole = call x args; spelled_is = refl; tree_is = refl; depth_is = refl }

  sline_canonical : (l : SLine) → sline_kept two l ≡ true → Derives (sline_spelled {two = two}) sline_tree sline_depth (sline_tokens l) l (tree.sline_depth l)
  sline_canonical (SClocks []) k = absurd cc
  sline_canonical (SClocks (x ∷ xs)) k = record { whole = clocks x xs; spelled_is = refl; tree_is = refl; depth_is = refl }
  sline_canonical (SLineOf l) k =
      let c = rline_canonical l k in
      record { whole = line c.whole; spelled_is = c.spelled_is; tree_is = ap SLineOf c.tree_is; depth_is = c.depth_is }

  -- ---- definitions

  member_canonical : (m : PlainMember) → member_kept two m ≡ true
      → Derives (member_spelled {two = two}) member_tree member_depth (member_tokens m) m (tree.member_depth m)
  member_canonical m k =
      let p = and_parts (spot_kept m.name) (list_all param_kept m.params && expression_kept two m.body) k in
      let c = (canonical two m.body (and_parts (list_all param_kept m.params) (expression_kept two m.body) p.1).1).expr in
      record {
        whole = record { name = m.name; params = m.params; body = c.whole };
        spelled_is = rw c.spelled_is refl;
        tree_is = rw c.tree_is refl;
        depth_is =
            c.depth_is;
      }

  further_canonical : (m : PlainMember) → member_kept two m ≡ true
      → Derives (further_member {two = two}) member_tree member_depth (further_tokens m) m (tree.member_depth m)
  further_canonical m k =
      let c = member_canonical m k in
      record { whole = c.whole; spelled_is = ap (λ z. word w.And ∷ z) c.spelled_is; tree_is = c.tree_is; depth_is = c.depth_is }

  -- a relation without a line is not kept
  no_line : (x : Spot) (ps : List Param) → definition_kept two (DRelation x ps []) ≡ true → ⊥
  no_line x ps k =
      let p = and_parts (spot_kept x) (list_all param_kept ps && false) k in
      let q = and_parts (list_all param_kept ps) false p.1 in
      absurd cc

  definition_canonical : (d : PlainDefinition) → definition_kept two d ≡ true
      → Derives (definition_spelled {two = two}) definition_tree definition_depth (tokens_in (definition_lines d)) d (tree.definition_depth d)
  definition_canonical (DRelation x ps []) k = absurd (no_line x ps k)
  definition_canonical (DRelation x ps (l ∷ ls)) k =
      let p = and_parts (spot_kept x) (list_all param_kept ps && list_all (rline_kept two) (l ∷ ls)) k in
      let q = and_parts (list_all param_kept ps) (list_all (rline_kept two) (l ∷ ls)) p.1 in
      let r = and_parts (rline_kept two l) (list_all (rline_kept two) ls) q.1 in
      let a = rline_canonical l r.0 in
      let c = each (rline_spelled {two = two}) rline_tree rline_depth rline_tokens tree.rline_depth (rline_kept two) rline_canonical ls r.1 in
      record {
        whole = relation x ps a.whole c.whole;
        spelled_is = rw (a.spelled_is, c.spelled_is) (ap (λ z. word w.Relation ∷ name x ∷ opening ∷ z)
            (ap (λ z. params_spelled ps ++ closing ∷ left_brace ∷ z) (ap (λ z. rline_tokens l ++ z) (sym (body_tokens rline_tokens ls)))
            ∙ sym (append_assoc (params_spelled ps) (closing ∷ left_brace ∷ []) (rline_tokens l ++ tokens_in (body_lines rline_tokens ls)))));
        tree_is = rw (a.tree_is, c.tree_is) refl;
        depth_is = rw (a.depth_is, c.depth_is) refl;
      }
  definition_canonical (DGroup []) k = absurd cc
  definition_canonical (DGroup (m ∷ ms)) k =
      let p = and_parts (member_kept two m) (list_all (member_kept two) ms) k in
      let a = member_canonical m p.0 in
      let c = each (further_member {two = two}) member_tree member_depth further_tokens tree.member_depth (member_kept two) further_canonical ms p.1 in
      record {
        whole = group a.whole c.whole;
        spelled_is = ap (λ z. word w.Expression ∷ (z ++ (flat_map further_member c.whole ++ semicolon ∷ []))) a.spelled_is
            ∙ ap (λ z. word w.Expression ∷ (member_tokens m ++ (z ++ semicolon ∷ []))) c.spelled_is
            ∙ ap (λ z. word w.Expression ∷ z) (sym (append_assoc (member_tokens m) (flat_map further_tokens ms) (semicolon ∷ [])))
            ∙ sym (append-nil (word w.Expression ∷ ((member_tokens m ++ flat_map further_tokens ms) ++ semicolon ∷ [])));
        tree_is = rw (a.tree_is, c.tree_is) refl;
        depth_is = rw (a.depth_is, c.depth_is) refl;
      }

-- ---- files

tokens_append : (xs ys : List TextLine) → tokens_in (xs ++ ys) ≡ tokens_in xs ++ tokens_in ys
tokens_append xs ys = flat_map-append (λ l. l.tokens) xs ys

definitions_tokens : (ds : List PlainDefinition) → tokens_in (flat_map definition_lines ds) ≡ flat_map (λ d. tokens_in (definition_lines d)) ds
definitions_tokens [] = refl
definitions_tokens (d ∷ ds) =
    tokens_append (definition_lines d) (flat_map definition_lines ds) ∙ ap (λ z. tokens_in (definition_lines d) ++ z) (definitions_tokens ds)

-- the version of a kept file
version_kept : (n : ℕ) → (nat_eq n 1 || nat_eq n 2) ≡ true → version (nat_eq n 2) ≡ n
version_kept n h = by_two (nat_eq n 2) refl
  where
    by_two : (b : Bool) → nat_eq n 2 ≡ b → version b ≡ n
    by_two true e = sym (eqb-true n 2 e)
    by_two false e = elim (or_cases (nat_eq n 1) (nat_eq n 2) h) [ inl i ↦ sym (eqb-true n 1 i) | inr i ↦ absurd (let c : true ≡ false = sym i ∙ e in cc) ]

pub file_canonical : (f : PlainFile) → file_kept f ≡ true → Derives file_spelled file_tree derivation_depth (canonical_terminals f) f (tree.file_depth f)
file_canonical f k =
    let two = is_two f in
    let p = and_parts (nat_eq f.version 1 || is_two f) (list_all (definition_kept two) f.definitions && list_all (sline_kept two) f.lines) k in
    let q = and_parts (list_all (definition_kept two) f.definitions) (list_all (sline_kept two) f.lines) p.1 in
    let v = version_kept f.version p.0 in
    let a = each (definition_spelled {two = two}) definition_tree definition_depth (λ d. tokens_in (definition_lines d)) tree.definition_depth
    (definition_kept two) (definition_canonical two) f.definitions q.0 in
    let c = each (sline_spelled {two = two}) sline_tree sline_depth sline_tokens tree.sline_depth (sline_kept two) (sline_canonical two) f.lines q.1 in
    record {
      whole = record { at = 0; two = two; definitions = a.whole; lines = c.whole };
      spelled_is = rw (v, a.spelled_is, c.spelled_is) (ap (λ z. word w.Ccsl ∷ number 0 f.version ∷ semicolon ∷ z)
          (ap (λ z. z ++ word w.System ∷ left_brace ∷ (flat_map sline_tokens f.lines ++ right_brace ∷ [])) (sym (definitions_tokens f.definitions))
          ∙ ap (λ z. tokens_in (flat_map definition_lines f.definitions) ++ word w.System ∷ left_brace ∷ z) (sym (body_tokens sline_tokens f.lines))
          ∙ sym (tokens_append (flat_map definition_lines f.definitions) (system_lines f.lines))));
      tree_is = rw (v, a.tree_is, c.tree_is) refl;
      depth_is = rw (a.depth_is, c.depth_is) refl;
    }

pub canonical_parses : CanonicalParses
canonical_parses room f k d =
    let c = file_canonical f k in
    record { is = record { derivation = c.whole; spelled = c.spelled_is; tree = c.tree_is }; none_deep = file_shallow room c.whole [] (rw c.depth_is d) }
