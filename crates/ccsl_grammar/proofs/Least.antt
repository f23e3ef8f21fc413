-- Where nothing in a derivation stands too deep, its tree is no deeper than there are levels.
use Rattle.std.proofs.Common.{◌≡◌, ℕ, zero, suc, ◌≤◌, Bool, List, [], ◌∷◌, ◌++◌, map, Option, Some, None, refl, subst, arith}
use Rattle.std.specs.List.{flat_map}
use Rattle.ccsl_base.specs.declared.reserved.Reserved.TheVariants as w
use Rattle.ccsl_ast.specs.Trees.{Expression, EName, ECall, ENever, PlainFile}
use Rattle.ccsl_ast.specs.Depth as tree
use Rattle.ccsl_ast.specs.Depth.{depth, greatest, file_depth}
use Rattle.ccsl_grammar.specs.Terminals.{Terminal, word, number}
use Rattle.ccsl_grammar.specs.Grammar.{closing, semicolon, right_brace, binop_spelled, term_spelled, wterm_spelled, Expr, alone, binary, delay, await, filter}
use Rattle.ccsl_grammar.specs.Grammar.{delayed, choice, Operand, named, called, never, parens, expr_spelled, operand_spelled, expr_tree, operand_tree, Rline}
use Rattle.ccsl_grammar.specs.Grammar.{define, constrain, call, rline_spelled, rline_tree, Sline, clocks, line, sline_spelled, sline_tree, Member}
use Rattle.ccsl_grammar.specs.Grammar.{further_member, member_tree, Definition, relation, group, definition_spelled, definition_tree, Derivation}
use Rattle.ccsl_grammar.specs.Grammar.{system_spelled, file_tree}
use Rattle.ccsl_grammar.specs.Deep.{expr_deep, operand_deep, all_deep, rline_deep, sline_deep, member_deep, definition_deep, file_deep}
use Rattle.std.specs.Option.{option_or}
use Rattle.ccsl_grammar.specs.Laws.{LeastDepth}

neither : {A : Type 0} (x y : Option A) → option_or x y ≡ None → (x ≡ None) × (y ≡ None)
neither None y e = (refl, e)
neither (Some a) y e = absurd cc

-- ---- expressions

operand_expr : (e : Expression) → tree.operand_depth e (depth e) ≤ depth e
operand_expr (EName x) = omega arith
operand_expr (ECall x args) = omega arith
operand_expr ENever = omega arith
operand_expr _ = omega arith

expr_operand : (e : Expression) → depth e ≤ suc (tree.operand_depth e (depth e))
expr_operand (EName x) = omega arith
expr_operand (ECall x args) = omega arith
expr_operand ENever = omega arith
expr_operand _ = omega arith

-- the depth of an operand's tree
abbrev operand_level : {two : Bool} → Operand two → ℕ
operand_level o = tree.operand_depth (operand_tree o) (depth (operand_tree o))

mutual
  expr_least : {two : Bool} (room : ℕ) (e : Expr two) (after : List Terminal) → expr_deep room e after ≡ None → depth (expr_tree e) ≤ room
  expr_least zero e after h = absurd cc
  expr_least (suc room) (alone o) after h = let i = operand_least room o after h in let j = expr_operand (operand_tree o) in omega arith
  expr_least (suc room) (binary op v a d) after h =
      let n = neither (operand_deep room a (binop_spelled op ++ (operand_spelled d ++ after))) (operand_deep room d after) h in
      let i = operand_least room a (binop_spelled op ++ (operand_spelled d ++ after)) n.0 in
      let j = operand_least room d after n.1 in
      omega arith
  expr_least (suc room) (delay a m) after h = let i = operand_least room a (word w.Delay ∷ (term_spelled m ++ after)) h in omega arith
  expr_least (suc room) (await a m) after h = let i = operand_least room a (word w.Await ∷ (term_spelled m ++ after)) h in omega arith
  expr_least (suc room) (filter a m) after h = let i = operand_least room a (word w.Filter ∷ (wterm_spelled m ++ after)) h in omega arith
  expr_least (suc room) (delayed a at n d) after h =
      let o = neither (operand_deep room a (word w.Delayed ∷ number at n ∷ word w.On ∷ (operand_spelled d ++ after))) (operand_deep room d after) h in
      let i = operand_least room a (word w.Delayed ∷ number at n ∷ word w.On ∷ (operand_spelled d ++ after)) o.0 in
      let j = operand_least room d after o.1 in
      omega arith
  expr_least (suc room) (choice q a d) after h =
      let n = neither (expr_deep room a (word w.Else ∷ (expr_spelled d ++ after))) (expr_deep room d after) h in
      let i = expr_least room a (word w.Else ∷ (expr_spelled d ++ after)) n.0 in
      let j = expr_least room d after n.1 in
      omega arith

  operand_least : {two : Bool} (room : ℕ) (o : Operand two) (after : List Terminal) → operand_deep room o after ≡ None → operand_level o ≤ room
  operand_least room (named x) after h = omega arith
  operand_least room (called x args) after h = omega arith
  operand_least room never after h = omega arith
  operand_least room (parens e) after h = let i = expr_least room e (closing ∷ after) h in let j = operand_expr (expr_tree e) in omega arith

-- ---- lists

module _ {C T : Type 0} (spelled : C → List Terminal) (deep : C → List Terminal → Option (List Terminal)) (tree : C → T) (level : T → ℕ) (room : ℕ)
    (one : (c : C) (after : List Terminal) → deep c after ≡ None → level (tree c) ≤ room) where
  all_least : (cs : List C) (after : List Terminal) → all_deep spelled deep cs after ≡ None → greatest (map level (map tree cs)) ≤ room
  all_least [] after h = omega arith
  all_least (c ∷ cs) after h =
      let n = neither (deep c (flat_map spelled cs ++ after)) (all_deep spelled deep cs after) h in
      let i = one c (flat_map spelled cs ++ after) n.0 in
      let j = all_least cs after n.1 in
      omega arith

-- ---- lines, definitions, files

module _ (two : Bool) (room : ℕ) where
  rline_least : (l : Rline two) (after : List Terminal) → rline_deep room l after ≡ None → tree.rline_depth (rline_tree l) ≤ room
  rline_least (define x e) after h = expr_least room e (semicolon ∷ after) h
  rline_least (constrain a r v b) after h = omega arith
  rline_least (call x args) after h = omega arith

  sline_least : (l : Sline two) (after : List Terminal) → sline_deep room l after ≡ None → tree.sline_depth (sline_tree l) ≤ room
  sline_least (clocks x xs) after h = omega arith
  sline_least (line l) after h = rline_least l after h

  member_least : (m : Member two) (after : List Terminal) → member_deep room m after ≡ None → tree.member_depth (member_tree m) ≤ room
  member_least m after h = expr_least room m.body after h

  definition_least : (d : Definition two) (after : List Terminal) → definition_deep room d after ≡ None → tree.definition_depth (definition_tree d) ≤ room
  definition_least (relation x ps l ls) after h =
      let n = neither (rline_deep room l (flat_map rline_spelled ls ++ right_brace ∷ after)) (all_deep rline_spelled (rline_deep room) ls (right_brace ∷ after))
      h in
      let i = rline_least l (flat_map rline_spelled ls ++ right_brace ∷ after) n.0 in
      let j = all_least rline_spelled (rline_deep room) rline_tree tree.rline_depth room rline_least ls (right_brace ∷ after) n.1 in
      omega arith
  definition_least (group m ms) after h =
      let n = neither (member_deep room m (flat_map further_member ms ++ semicolon ∷ after)) (all_deep further_member (member_deep room) ms (semicolon ∷ after))
      h in
      let i = member_least m (flat_map further_member ms ++ semicolon ∷ after) n.0 in
      let j = all_least further_member (member_deep room) member_tree tree.member_depth room member_least ms (semicolon ∷ after) n.1 in
      omega arith

file_least : (room : ℕ) (d : Derivation) → file_deep room d [] ≡ None → file_depth (file_tree d) ≤ room
file_least room d h =
    let n = neither (all_deep definition_spelled (definition_deep room) d.definitions (system_spelled d.lines ++ []))
    (all_deep sline_spelled (sline_deep room) d.lines (right_brace ∷ [])) h in
    let i = all_least definition_spelled (definition_deep room) definition_tree tree.definition_depth room (definition_least d.two room) d.definitions
    (system_spelled d.lines ++ []) n.0 in
    let j = all_least sline_spelled (sline_deep room) sline_tree tree.sline_depth room (sline_least d.two room) d.lines (right_brace ∷ []) n.1 in
    omega arith

pub least_depth : LeastDepth
least_depth room ts f p = subst (λ (f : PlainFile). file_depth f ≤ room) p.is.tree (file_least room p.is.derivation p.none_deep)
