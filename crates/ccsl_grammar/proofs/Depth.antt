-- Nothing stands too deep where as many levels are left as a derivation is deep.
use Rattle.std.proofs.Common.{◌≡◌, ℕ, zero, suc, ◌≤◌, List, [], ◌∷◌, ◌++◌, map, Option, None, refl, max, Bool, arith}
use Rattle.std.specs.List.{flat_map}
use Rattle.ccsl_base.specs.declared.reserved.Reserved.TheVariants as w
use Rattle.ccsl_ast.specs.Depth.{greatest}
use Rattle.ccsl_grammar.specs.Terminals.{Terminal, word, number}
use Rattle.ccsl_grammar.specs.Grammar.{closing, semicolon, right_brace, binop_spelled, term_spelled, wterm_spelled, Expr, alone, binary, delay, await, filter}
use Rattle.ccsl_grammar.specs.Grammar.{delayed, choice, Operand, named, called, never, parens, expr_spelled, operand_spelled, Rline, define, constrain, call}
use Rattle.ccsl_grammar.specs.Grammar.{rline_spelled, Sline, clocks, line, sline_spelled, Member, further_member, Definition, relation, group}
use Rattle.ccsl_grammar.specs.Grammar.{definition_spelled, Derivation, system_spelled}
use Rattle.ccsl_grammar.specs.Deep.{expr_deep, operand_deep, all_deep, rline_deep, sline_deep, member_deep, definition_deep, file_deep}

-- ---- the depth of a derivation: the greatest level of an expression in it

abbrev mutual
  pub expr_depth : {two : Bool} → Expr two → ℕ
  expr_depth (alone o) = suc (operand_depth o)
  expr_depth (binary op v a d) = suc (max (operand_depth a) (operand_depth d))
  expr_depth (delay a m) = suc (operand_depth a)
  expr_depth (await a m) = suc (operand_depth a)
  expr_depth (filter a m) = suc (operand_depth a)
  expr_depth (delayed a at n d) = suc (max (operand_depth a) (operand_depth d))
  expr_depth (choice q a d) = suc (max (expr_depth a) (expr_depth d))

  pub operand_depth : {two : Bool} → Operand two → ℕ
  operand_depth (named x) = 0
  operand_depth (called x args) = 0
  operand_depth never = 0
  operand_depth (parens e) = expr_depth e

abbrev pub rline_depth : {two : Bool} → Rline two → ℕ
rline_depth (define x e) = expr_depth e
rline_depth (constrain a r v b) = 0
rline_depth (call x args) = 0

abbrev pub sline_depth : {two : Bool} → Sline two → ℕ
sline_depth (clocks x xs) = 0
sline_depth (line l) = rline_depth l

abbrev pub member_depth : {two : Bool} → Member two → ℕ
member_depth m = expr_depth m.body

abbrev pub definition_depth : {two : Bool} → Definition two → ℕ
definition_depth (relation x params l ls) = greatest (map rline_depth (l ∷ ls))
definition_depth (group m ms) = greatest (map member_depth (m ∷ ms))

abbrev pub derivation_depth : Derivation → ℕ
derivation_depth d = max (greatest (map definition_depth d.definitions)) (greatest (map sline_depth d.lines))

-- ---- expressions

mutual
  expr_shallow : {two : Bool} (room : ℕ) (e : Expr two) (after : List Terminal) → expr_depth e ≤ room → expr_deep room e after ≡ None
  expr_shallow zero (alone o) after h = absurd (omega arith)
  expr_shallow zero (binary op v a d) after h = absurd (omega arith)
  expr_shallow zero (delay a m) after h = absurd (omega arith)
  expr_shallow zero (await a m) after h = absurd (omega arith)
  expr_shallow zero (filter a m) after h = absurd (omega arith)
  expr_shallow zero (delayed a at n d) after h = absurd (omega arith)
  expr_shallow zero (choice q a d) after h = absurd (omega arith)
  expr_shallow (suc room) (alone o) after h = operand_shallow room o after (omega arith)
  expr_shallow (suc room) (binary op v a d) after h =
      rw (operand_shallow room a (binop_spelled op ++ (operand_spelled d ++ after)) (omega arith)) (operand_shallow room d after (omega arith))
  expr_shallow (suc room) (delay a m) after h = operand_shallow room a (word w.Delay ∷ (term_spelled m ++ after)) (omega arith)
  expr_shallow (suc room) (await a m) after h = operand_shallow room a (word w.Await ∷ (term_spelled m ++ after)) (omega arith)
  expr_shallow (suc room) (filter a m) after h = operand_shallow room a (word w.Filter ∷ (wterm_spelled m ++ after)) (omega arith)
  expr_shallow (suc room) (delayed a at n d) after h =
      rw (operand_shallow room a (word w.Delayed ∷ number at n ∷ word w.On ∷ (operand_spelled d ++ after)) (omega arith))
      (operand_shallow room d after (omega arith))
  expr_shallow (suc room) (choice q a d) after h =
      rw (expr_shallow room a (word w.Else ∷ (expr_spelled d ++ after)) (omega arith)) (expr_shallow room d after (omega arith))

  operand_shallow : {two : Bool} (room : ℕ) (o : Operand two) (after : List Terminal) → operand_depth o ≤ room → operand_deep room o after ≡ None
  operand_shallow room (named x) after h = refl
  operand_shallow room (called x args) after h = refl
  operand_shallow room never after h = refl
  operand_shallow room (parens e) after h = expr_shallow room e (closing ∷ after) h

-- ---- lists

module _ {C : Type 0} (spelled : C → List Terminal) (deep : C → List Terminal → Option (List Terminal)) (depth : C → ℕ) (room : ℕ) where
  all_shallow : ((c : C) (after : List Terminal) → depth c ≤ room → deep c after ≡ None)
      → (cs : List C) (after : List Terminal) → greatest (map depth cs) ≤ room → all_deep spelled deep cs after ≡ None
  all_shallow one [] after h = refl
  all_shallow one (c ∷ cs) after h = rw (one c (flat_map spelled cs ++ after) (omega arith)) (all_shallow one cs after (omega arith))

-- ---- lines, definitions, files

module _ (two : Bool) (room : ℕ) where
  rline_shallow : (l : Rline two) (after : List Terminal) → rline_depth l ≤ room → rline_deep room l after ≡ None
  rline_shallow (define x e) after h = expr_shallow room e (semicolon ∷ after) h
  rline_shallow (constrain a r v b) after h = refl
  rline_shallow (call x args) after h = refl

  sline_shallow : (l : Sline two) (after : List Terminal) → sline_depth l ≤ room → sline_deep room l after ≡ None
  sline_shallow (clocks x xs) after h = refl
  sline_shallow (line l) after h = rline_shallow l after h

  member_shallow : (m : Member two) (after : List Terminal) → member_depth m ≤ room → member_deep room m after ≡ None
  member_shallow m after h = expr_shallow room m.body after h

  definition_shallow : (d : Definition two) (after : List Terminal) → definition_depth d ≤ room → definition_deep room d after ≡ None
  definition_shallow (relation x ps l ls) after h =
      rw (rline_shallow l (flat_map rline_spelled ls ++ right_brace ∷ after) (omega arith))
      (all_shallow rline_spelled (rline_deep room) rline_depth room rline_shallow ls (right_brace ∷ after) (omega arith))
  definition_shallow (group m ms) after h =
      rw (member_shallow m (flat_map further_member ms ++ semicolon ∷ after) (omega arith))
      (all_shallow further_member (member_deep room) member_depth room member_shallow ms (semicolon ∷ after) (omega arith))

pub file_shallow : (room : ℕ) (d : Derivation) (after : List Terminal) → derivation_depth d ≤ room → file_deep room d after ≡ None
file_shallow room d after h =
    rw (all_shallow definition_spelled (definition_deep room) definition_depth room (definition_shallow d.two room) d.definitions
    (system_spelled d.lines ++ after) (omega arith))
    (all_shallow sline_spelled (sline_deep room) sline_depth room (sline_shallow d.two room) d.lines (right_brace ∷ after) (omega arith))
