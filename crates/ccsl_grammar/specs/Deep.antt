-- Levels. The expression of a define or of a member has level 1; the expression in parentheses and each branch of an if have
-- a level one greater than the expression in which they stand.
use Rattle.std.specs.Prelude.{ℕ, zero, suc, Bool, List, [], ◌∷◌, ◌++◌, Option, Some, None}
use Rattle.std.specs.Option.{option_or}
use Rattle.std.specs.List.{flat_map}
use Rattle.ccsl_base.specs.declared.reserved.Reserved.TheVariants as w
use Rattle.ccsl_grammar.specs.Terminals.{Terminal, word, number}
use Rattle.ccsl_grammar.specs.Grammar.{closing, semicolon, right_brace, binop_spelled, term_spelled, wterm_spelled, Expr, alone, binary, delay, await, filter}
use Rattle.ccsl_grammar.specs.Grammar.{delayed, choice, Operand, parens, expr_spelled, operand_spelled, Rline, define, rline_spelled, Sline, clocks, line}
use Rattle.ccsl_grammar.specs.Grammar.{sline_spelled, Member, further_member, Definition, relation, group, definition_spelled, Derivation, system_spelled}

-- The first expression that stands too deep, as the terminals from it on; nothing stands too deep where there is none.
--     room     how many levels are left
--     after    the terminals behind the derivation

abbrev mutual
  pub expr_deep : {two : Bool} → ℕ → Expr two → List Terminal → Option (List Terminal)
  expr_deep zero e after = Some (expr_spelled e ++ after)
  expr_deep (suc room) (alone o) after = operand_deep room o after
  expr_deep (suc room) (binary op v a d) after =
      option_or (operand_deep room a (binop_spelled op ++ (operand_spelled d ++ after))) (operand_deep room d after)
  expr_deep (suc room) (delay a m) after = operand_deep room a (word w.Delay ∷ (term_spelled m ++ after))
  expr_deep (suc room) (await a m) after = operand_deep room a (word w.Await ∷ (term_spelled m ++ after))
  expr_deep (suc room) (filter a m) after = operand_deep room a (word w.Filter ∷ (wterm_spelled m ++ after))
  expr_deep (suc room) (delayed a at n d) after =
      option_or (operand_deep room a (word w.Delayed ∷ number at n ∷ word w.On ∷ (operand_spelled d ++ after))) (operand_deep room d after)
  expr_deep (suc room) (choice q a d) after =
      option_or (expr_deep room a (word w.Else ∷ (expr_spelled d ++ after))) (expr_deep room d after)

  pub operand_deep : {two : Bool} → ℕ → Operand two → List Terminal → Option (List Terminal)
  operand_deep room (parens e) after = expr_deep room e (closing ∷ after)
  operand_deep room _ after = None

-- of several derivations, one behind the other
abbrev pub all_deep : {C : Type 0} (spelled : C → List Terminal) (deep : C → List Terminal → Option (List Terminal))
    → List C → List Terminal → Option (List Terminal)
all_deep spelled deep [] after = None
all_deep spelled deep (c ∷ cs) after = option_or (deep c (flat_map spelled cs ++ after)) (all_deep spelled deep cs after)

abbrev pub rline_deep : {two : Bool} → ℕ → Rline two → List Terminal → Option (List Terminal)
rline_deep room (define x e) after = expr_deep room e (semicolon ∷ after)
rline_deep room _ after = None

abbrev pub sline_deep : {two : Bool} → ℕ → Sline two → List Terminal → Option (List Terminal)
sline_deep room (clocks x xs) after = None
sline_deep room (line l) after = rline_deep room l after

abbrev pub member_deep : {two : Bool} → ℕ → Member two → List Terminal → Option (List Terminal)
member_deep room m after = expr_deep room m.body after

abbrev pub definition_deep : {two : Bool} → ℕ → Definition two → List Terminal → Option (List Terminal)
definition_deep room (relation x params l ls) after =
    option_or (rline_deep room l (flat_map rline_spelled ls ++ right_brace ∷ after)) (all_deep rline_spelled (rline_deep room) ls (right_brace ∷ after))
definition_deep room (group m ms) after =
    option_or (member_deep room m (flat_map further_member ms ++ semicolon ∷ after)) (all_deep further_member (member_deep room) ms (semicolon ∷ after))

abbrev pub file_deep : ℕ → Derivation → List Terminal → Option (List Terminal)
file_deep room d after =
    option_or (all_deep definition_spelled (definition_deep room) d.definitions (system_spelled d.lines ++ after))
    (all_deep sline_spelled (sline_deep room) d.lines (right_brace ∷ after))
