-- Definitions and files: what the reader takes is a derivation, and where it stops a derivation can be continued.
use Rattle.std.proofs.Common.{◌≡◌, ℕ, ◌<◌, List, [], ◌∷◌, ◌++◌, length, map, refl, sym, ap, ◌∙◌, append_assoc, arith, Bool}
use Rattle.std.specs.List.{flat_map}
use Rattle.std.proofs.lemmas.List.{append-nil}
use Rattle.ccsl_base.specs.declared.reserved.Reserved.TheVariants as w
use Rattle.ccsl_ast.specs.declared.spot.Spot.{Spot}
use Rattle.ccsl_ast.specs.declared.definition.Kind.TheVariants as kind
use Rattle.ccsl_ast.specs.declared.definition.Param.{Param}
use Rattle.ccsl_ast.specs.Trees.{DRelation, DGroup}
use Rattle.ccsl_grammar.specs.Terminals.{Terminal, word, name}
use Rattle.ccsl_grammar.specs.Kinds.{is_word}
use Rattle.ccsl_grammar.specs.Reader.{many, ◌>>◌}
use Rattle.ccsl_grammar.specs.Deep.{all_deep, expr_deep, rline_deep, member_deep, definition_deep}
use Rattle.ccsl_grammar.specs.Places.{Stops, Is, shallow}
use Rattle.ccsl_grammar.specs.Grammar.{opening, closing, semicolon, equals, left_brace, right_brace, list_spelled, param_spelled, alone, never, expr_spelled}
use Rattle.ccsl_grammar.specs.Grammar.{expr_tree, Rline, call, rline_spelled, rline_tree, Member, member_spelled, further_member, member_tree, Definition}
use Rattle.ccsl_grammar.specs.Grammar.{relation, group, definition_spelled, definition_tree}
use Rattle.ccsl_grammar.specs.Parser.{list_at, param_at, rline_at, no_brace, relation_at, member_at, further_member_at, group_at, definition_at, word_at}
use Rattle.ccsl_grammar.proofs.Good.{Good, give, either}
use Rattle.ccsl_grammar.proofs.Parts.{Reads, within, inside, begun, built, part_then, part_last}
use Rattle.ccsl_grammar.proofs.Many.{many_reads}
use Rattle.ccsl_grammar.proofs.Steps.{word_then, symbol_then, name_then}
use Rattle.ccsl_grammar.proofs.Leaves.{some_spot, closed_spelled, list_reads, param_reads}
use Rattle.ccsl_grammar.proofs.Exprs.{expr_reads}
use Rattle.ccsl_grammar.proofs.Lines.{rline_nonempty, rline_reads}

abbrev pub some_param : Param
some_param = record { kind = kind.Clock; name = some_spot }

abbrev some_member : {two : Bool} → Member two
some_member = record { name = some_spot; params = []; body = alone never }

abbrev some_rline : {two : Bool} → Rline two
some_rline = call some_spot []

abbrev member_end : List Terminal
member_end = equals ∷ word w.Never ∷ []

-- the rest of a member, of a relation, of a group, of a file
abbrev rline_rest : List Terminal
rline_rest = name some_spot ∷ opening ∷ closing ∷ semicolon ∷ []

pub definition_nonempty : {two : Bool} (d : Definition two) → 0 < length (definition_spelled d)
definition_nonempty (relation x params l ls) = omega arith
definition_nonempty (group m ms) = omega arith

-- the parameters of a member or of a relation, with the parenthesis behind them
params_reads : Reads (closed_spelled param_spelled) shallow (λ ps. ps) (list_at param_at)
params_reads = list_reads param_spelled param_at some_param param_reads

module _ (two : Bool) (room : ℕ) where
  -- ---- members

  pub member_reads : Reads (member_spelled {two = two}) (member_deep room) member_tree (member_at two room)
  unfolding member_at
  member_reads = record {
    at = λ ts. name_then _ _ _ ts (λ z. begun some_member (name some_spot ∷ opening ∷ closing ∷ member_end) refl)
        (λ x z. symbol_then _ _ 40 _ z (λ z. begun (record { name = x; params = []; body = alone never }) (opening ∷ closing ∷ member_end) refl)
        (λ z. part_then params_reads _ _ _ z
        (inside (closed_spelled param_spelled) (member_spelled {two = two}) (member_deep room) (λ ps. record { name = x; params = ps; body = alone never })
        (λ q. name x ∷ opening ∷ q) member_end (λ x y. refl) (λ ps. rw (append_assoc (list_spelled param_spelled ps) (closing ∷ []) member_end) refl))
        (λ ps d z. symbol_then _ _ 61 _ z
        (λ z. begun (record { name = x; params = ps; body = alone never }) member_end
        (rw (append-nil (closed_spelled param_spelled ps), append_assoc (list_spelled param_spelled ps) (closing ∷ []) member_end) refl))
        (λ z. part_then (expr_reads two room) _ _ _ z
        (within (expr_spelled {two = two}) (expr_deep room) (member_spelled {two = two}) (member_deep room) (λ e. record { name = x; params = ps; body = e })
        (λ q. name x ∷ opening ∷ (closed_spelled param_spelled ps ++ equals ∷ q)) []
        (λ u v. ap (λ q. name x ∷ opening ∷ q) (sym (append_assoc (closed_spelled param_spelled ps) (equals ∷ u) v)))
        (λ e. rw (append-nil (expr_spelled e), append_assoc (list_spelled param_spelled ps) (closing ∷ []) (equals ∷ expr_spelled e)) refl)
        (λ e z after h. h))
        (λ e d y. give _ _ (record { name = x; params = ps; body = expr_tree e }) y
        (built (record { name = x; params = ps; body = e })
        (rw (append-nil (expr_spelled e), append_assoc (list_spelled param_spelled ps) (closing ∷ []) (equals ∷ expr_spelled e)) refl) d))))));
  }

  pub further_member_reads : Reads (further_member {two = two}) (member_deep room) member_tree (further_member_at two room)
  unfolding further_member_at
  further_member_reads = record {
    at = λ ts. word_then _ _ w.And _ ts (λ z. begun some_member (word w.And ∷ name some_spot ∷ opening ∷ closing ∷ member_end) refl)
        (λ z. part_last member_reads _ _ z
        (within (member_spelled {two = two}) (member_deep room) (further_member {two = two}) (member_deep room) (λ m. m) (λ q. word w.And ∷ q) [] (λ x y. refl)
        (λ m. rw (append-nil (member_spelled m)) refl) (λ m z after h. h))
        (λ m d. built m refl d));
  }

  further_members : Reads (flat_map (further_member {two = two})) (all_deep (further_member {two = two}) (member_deep room)) (map member_tree)
      (many (is_word w.And) (further_member_at two room))
  further_members = many_reads (further_member {two = two}) (member_deep room) member_tree (is_word w.And) (further_member_at two room) (λ m. omega arith)
      further_member_reads

  group_reads : (ts : List Terminal)
      → Good (Stops (definition_spelled {two = two}) (definition_deep room)) (Is (definition_spelled {two = two}) (definition_deep room) definition_tree)
      (word_at w.Expression >> group_at two room) ts
  unfolding group_at
  group_reads ts = word_then _ _ w.Expression _ ts
      (λ z. begun (group some_member []) (word w.Expression ∷ name some_spot ∷ opening ∷ closing ∷ (member_end ++ semicolon ∷ [])) refl)
      (λ z. part_then member_reads _ _ _ z
      (within (member_spelled {two = two}) (member_deep room) (definition_spelled {two = two}) (definition_deep room) (λ m. group m [])
      (λ q. word w.Expression ∷ q) (semicolon ∷ []) (λ x y. refl) (λ m. refl) (λ m z after h. rw h refl))
      (λ m i z. part_then further_members _ _ _ z
      (within (flat_map (further_member {two = two})) (all_deep (further_member {two = two}) (member_deep room)) (definition_spelled {two = two})
      (definition_deep room) (λ ms. group m ms) (λ q. word w.Expression ∷ (member_spelled m ++ q)) (semicolon ∷ [])
      (λ x y. ap (λ q. word w.Expression ∷ q) (sym (append_assoc (member_spelled m) x y))) (λ ms. refl)
      (λ ms z after h. rw (i (flat_map further_member ms ++ semicolon ∷ after)) h))
      (λ ms j z. symbol_then _ _ 59 _ z
      (λ z. begun (group m ms) (semicolon ∷ [])
      (rw (append-nil (flat_map further_member ms), append_assoc (member_spelled m) (flat_map further_member ms) (semicolon ∷ [])) refl))
      (λ z. give _ _ (DGroup (member_tree m ∷ map member_tree ms)) z
      (built {deep = definition_deep room} (group m ms) refl (λ after. rw (i (flat_map further_member ms ++ semicolon ∷ after)) (j (semicolon ∷ after))))))))

  -- ---- relations

  further_lines : Reads (flat_map (rline_spelled {two = two})) (all_deep (rline_spelled {two = two}) (rline_deep room)) (map rline_tree)
      (many no_brace (rline_at two room))
  further_lines = many_reads (rline_spelled {two = two}) (rline_deep room) rline_tree no_brace (rline_at two room) rline_nonempty (rline_reads two room)

  -- what stands before a relation's lines
  abbrev heading : Spot → List Param → List Terminal → List Terminal
  heading x ps q = word w.Relation ∷ name x ∷ opening ∷ (closed_spelled param_spelled ps ++ left_brace ∷ q)

  heading_is : (x : Spot) (ps : List Param) (u v : List Terminal) → heading x ps (u ++ v) ≡ heading x ps u ++ v
  heading_is x ps u v = ap (λ q. word w.Relation ∷ name x ∷ opening ∷ q) (sym (append_assoc (closed_spelled param_spelled ps) (left_brace ∷ u) v))

  relation_is : (x : Spot) (ps : List Param) (l : Rline two) (ls : List (Rline two))
      → definition_spelled (relation x ps l ls) ≡ heading x ps (rline_spelled l ++ (flat_map rline_spelled ls ++ right_brace ∷ []))
  relation_is x ps l ls = ap (λ q. word w.Relation ∷ name x ∷ opening ∷ q)
      (sym (append_assoc (list_spelled param_spelled ps) (closing ∷ []) (left_brace ∷ (rline_spelled l ++ (flat_map rline_spelled ls ++ right_brace ∷ [])))))

  relation_reads : (ts : List Terminal)
      → Good (Stops (definition_spelled {two = two}) (definition_deep room)) (Is (definition_spelled {two = two}) (definition_deep room) definition_tree)
      (word_at w.Relation >> relation_at two room) ts
  unfolding relation_at
  relation_reads ts = word_then _ _ w.Relation _ ts
      (λ z. begun (relation some_spot [] some_rline []) (word w.Relation ∷ name some_spot ∷ opening ∷ closing ∷ left_brace ∷ (rline_rest ++ right_brace ∷ []))
      refl)
      (λ z. name_then _ _ _ z (λ z. begun (relation some_spot [] some_rline [])
      (name some_spot ∷ opening ∷ closing ∷ left_brace ∷ (rline_rest ++ right_brace ∷ [])) refl)
      (λ x z. symbol_then _ _ 40 _ z (λ z. begun (relation x [] some_rline []) (opening ∷ closing ∷ left_brace ∷ (rline_rest ++ right_brace ∷ [])) refl)
      (λ z. part_then params_reads _ _ _ z
      (inside (closed_spelled param_spelled) (definition_spelled {two = two}) (definition_deep room) (λ ps. relation x ps some_rline [])
      (λ q. word w.Relation ∷ name x ∷ opening ∷ q) (left_brace ∷ (rline_rest ++ right_brace ∷ [])) (λ x y. refl) (λ ps. relation_is x ps some_rline []))
      (λ ps d z. symbol_then _ _ 123 _ z
      (λ z. begun (relation x ps some_rline []) (left_brace ∷ (rline_rest ++ right_brace ∷ []))
      (rw (append-nil (closed_spelled param_spelled ps)) (relation_is x ps some_rline [])))
      (λ z. part_then (rline_reads two room) _ _ _ z
      (within (rline_spelled {two = two}) (rline_deep room) (definition_spelled {two = two}) (definition_deep room) (λ l. relation x ps l [])
      (λ q. heading x ps q) (right_brace ∷ []) (heading_is x ps) (λ l. relation_is x ps l []) (λ l z after h. rw h refl))
      (λ l i z. part_then further_lines _ _ _ z
      (within (flat_map (rline_spelled {two = two})) (all_deep (rline_spelled {two = two}) (rline_deep room)) (definition_spelled {two = two})
      (definition_deep room) (λ ls. relation x ps l ls) (λ q. heading x ps (rline_spelled l ++ q)) (right_brace ∷ [])
      (λ u v. ap (heading x ps) (sym (append_assoc (rline_spelled l) u v)) ∙ heading_is x ps (rline_spelled l ++ u) v) (λ ls. relation_is x ps l ls)
      (λ ls z after h. rw (i (flat_map rline_spelled ls ++ right_brace ∷ after)) h))
      (λ ls j z. symbol_then _ _ 125 _ z (λ z. begun (relation x ps l ls) (right_brace ∷ [])
      (relation_is x ps l ls ∙ rw (append-nil (flat_map rline_spelled ls))
      (ap (heading x ps) (sym (append_assoc (rline_spelled l) (flat_map rline_spelled ls) (right_brace ∷ [])))
      ∙ heading_is x ps (rline_spelled l ++ flat_map rline_spelled ls) (right_brace ∷ []))))
      (λ z. give _ _ (DRelation x ps (rline_tree l ∷ map rline_tree ls)) z
      (built {deep = definition_deep room} (relation x ps l ls) (relation_is x ps l ls)
      (λ after. rw (i (flat_map rline_spelled ls ++ right_brace ∷ after)) (j (right_brace ∷ after))))))))))))

  pub definition_reads : Reads (definition_spelled {two = two}) (definition_deep room) definition_tree (definition_at two room)
  unfolding definition_at
  definition_reads = record { at = λ ts. either _ _ (is_word w.Relation) _ _ ts (λ b. relation_reads ts) (λ b. group_reads ts) }
