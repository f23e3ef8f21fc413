-- The readers of lines, definitions and files on what is spelled from them.
use Rattle.std.proofs.Common.{◌≡◌, ℕ, true, false, List, [], ◌∷◌, ◌++◌, map, Option, refl, sym, ap, ◌∙◌, append_assoc, arith, Bool}
use Rattle.std.specs.List.{flat_map}
use Rattle.std.proofs.lemmas.List.{append-nil}
use Rattle.ccsl_base.specs.declared.reserved.Reserved.TheVariants as w
use Rattle.ccsl_ast.specs.declared.spot.Spot.{Spot}
use Rattle.ccsl_ast.specs.declared.term.Argument.{Argument}
use Rattle.ccsl_ast.specs.declared.line.Relation.{Relation}
use Rattle.ccsl_ast.specs.declared.line.Relation.TheVariants as rel
use Rattle.ccsl_ast.specs.declared.definition.Param.{Param}
use Rattle.ccsl_ast.specs.Trees.{Expression, Line, LDefine, LConstraint, LCall, SLine, SClocks, SLineOf, PlainMember, PlainDefinition, DRelation, DGroup}
use Rattle.ccsl_ast.specs.Trees.{PlainFile, relop_in}
use Rattle.ccsl_grammar.specs.Terminals.{Terminal, word, name, number}
use Rattle.ccsl_grammar.specs.Kinds.{is_word}
use Rattle.ccsl_grammar.specs.Reader.{took, Reader, followed, ◌>>=◌, ◌>>◌, given, begins, many}
use Rattle.ccsl_grammar.specs.Deep.{all_deep, expr_deep, rline_deep, sline_deep, member_deep, definition_deep, file_deep}
use Rattle.ccsl_grammar.specs.Grammar.{opening, closing, semicolon, equals, left_brace, right_brace, further_spelled, list_spelled, arg_spelled, param_spelled}
use Rattle.ccsl_grammar.specs.Grammar.{relop_spelled, expr_spelled, expr_tree, Rline, define, constrain, call, rline_spelled, rline_tree, Sline, clocks, line}
use Rattle.ccsl_grammar.specs.Grammar.{clock_spelled, sline_spelled, sline_tree, Member, member_spelled, further_member, member_tree, Definition, relation}
use Rattle.ccsl_grammar.specs.Grammar.{group, definition_spelled, definition_tree, Derivation, system_spelled, version, file_spelled, file_tree}
use Rattle.ccsl_grammar.specs.Parser.{word_at, symbol_at, name_at, precedes_at, within_at, num_at, relop_at, expr_at, define_at, call_at, constraint_at}
use Rattle.ccsl_grammar.specs.Parser.{rline_at, clocks_at, sline_at, no_brace, relation_at, member_at, further_member_at, group_at, definition_at}
use Rattle.ccsl_grammar.specs.Parser.{is_definition, version_at, system_at, ends, file_at}
use Rattle.ccsl_grammar.proofs.Leaves.{closed_spelled}
use Rattle.ccsl_grammar.proofs.Lines.{rline_nonempty, rline_reads, sline_nonempty, sline_reads}
use Rattle.ccsl_grammar.proofs.Definitions.{further_member_reads, definition_nonempty, definition_reads}
use Rattle.ccsl_grammar.proofs.Outcome.{outcome, outcome_then, outcome_last, many_complete}
use Rattle.ccsl_grammar.proofs.CompleteLeaves.{args_complete, params_complete, clocks_complete}
use Rattle.ccsl_grammar.proofs.CompleteExprs.{EndsExpr, ends_and, ends_semicolon, expr_complete}

-- ---- lines

define_open : (two : Bool) (room : ℕ) (x : Spot) (z : List Terminal)
    → rline_at two room (word w.Define ∷ name x ∷ equals ∷ z) ≡ followed (expr_at two room z) (λ e. symbol_at 59 >> given (LDefine x e))
unfolding rline_at define_at word_at name_at symbol_at
define_open two room x z = refl

define_close : (x : Spot) (e : Expression) (z : List Terminal) → (symbol_at 59 >> given (LDefine x e)) (semicolon ∷ z) ≡ took (LDefine x e) z
unfolding symbol_at
define_close x e z = refl

call_complete : (two : Bool) (room : ℕ) (x : Spot) (args : List Argument) (z : List Terminal)
    → rline_at two room (name x ∷ opening ∷ (closed_spelled arg_spelled args ++ semicolon ∷ z)) ≡ took (LCall x args) z
unfolding rline_at name_at call_at symbol_at
call_complete two room x args z = rw (args_complete args (semicolon ∷ z)) refl

constraint_complete : (two : Bool) (room : ℕ) (a b : Spot) (r : Relation) → relop_in two r ≡ true → (z : List Terminal)
    → rline_at two room (name a ∷ (relop_spelled r ++ name b ∷ semicolon ∷ z)) ≡ took (LConstraint a r b) z
unfolding rline_at constraint_at name_at symbol_at relop_at precedes_at within_at num_at word_at
constraint_complete two room a b (rel.PrecedesWithin at n) h z = rw h refl
constraint_complete two room a b rel.Subclock h z = refl
constraint_complete two room a b _ h z = refl

pub rline_complete : (two : Bool) (room : ℕ) (l : Rline two) (rest : List Terminal)
    → rline_at two room (rline_spelled l ++ rest) ≡ outcome (rline_deep room l rest) (rline_tree l) rest
rline_complete two room (define x e) rest =
    rw (append_assoc (expr_spelled e) (semicolon ∷ []) rest)
    (define_open two room x (expr_spelled e ++ semicolon ∷ rest)
    ∙ rw (expr_complete two room e (semicolon ∷ rest) (ends_semicolon rest))
    (outcome_last (expr_deep room e (semicolon ∷ rest)) (expr_tree e) (semicolon ∷ rest) (λ v. symbol_at 59 >> given (LDefine x v))
    (LDefine x (expr_tree e)) rest (define_close x (expr_tree e) rest)))
rline_complete two room (constrain a r v b) rest =
    rw (append_assoc (relop_spelled r) (name b ∷ semicolon ∷ []) rest) (constraint_complete two room a b r v rest)
rline_complete two room (call x args) rest =
    rw (append_assoc (list_spelled arg_spelled args) (closing ∷ semicolon ∷ []) rest)
    (ap (λ q. rline_at two room (name x ∷ opening ∷ q)) (sym (append_assoc (list_spelled arg_spelled args) (closing ∷ []) (semicolon ∷ rest)))
    ∙ call_complete two room x args rest)

clock_line : (two : Bool) (room : ℕ) (x : Spot) (xs : List Spot) (z : List Terminal)
    → sline_at two room (word w.Clock ∷ name x ∷ (flat_map (further_spelled clock_spelled) xs ++ semicolon ∷ z)) ≡ took (SClocks (x ∷ xs)) z
unfolding sline_at clocks_at word_at name_at symbol_at
clock_line two room x xs z = rw (clocks_complete xs (semicolon ∷ z) refl) refl

-- a line begins with a name or define
rline_first : {two : Bool} (l : Rline two) (z : List Terminal)
    → (begins (is_word w.Clock) (rline_spelled l ++ z) ≡ false) × (begins no_brace (rline_spelled l ++ z) ≡ true)
rline_first (define x e) z = (refl, refl)
rline_first (constrain a r v b) z = (refl, refl)
rline_first (call x args) z = (refl, refl)

sline_of_rline : (two : Bool) (room : ℕ) (l : Rline two) (z : List Terminal)
    → sline_at two room (rline_spelled l ++ z) ≡ followed (rline_at two room (rline_spelled l ++ z)) (λ v. given (SLineOf v))
unfolding sline_at
sline_of_rline two room l z = rw (rline_first l z).0 refl

sline_complete : (two : Bool) (room : ℕ) (l : Sline two) (rest : List Terminal)
    → sline_at two room (sline_spelled l ++ rest) ≡ outcome (sline_deep room l rest) (sline_tree l) rest
sline_complete two room (clocks x xs) rest =
    rw (append_assoc (flat_map (further_spelled clock_spelled) xs) (semicolon ∷ []) rest) (clock_line two room x xs rest)
sline_complete two room (line l) rest = sline_of_rline two room l rest
    ∙ rw (rline_complete two room l rest)
    (outcome_last (rline_deep room l rest) (rline_tree l) rest (λ v. given (SLineOf v)) (SLineOf (rline_tree l)) rest refl)

sline_first : {two : Bool} (l : Sline two) (z : List Terminal) → begins no_brace (sline_spelled l ++ z) ≡ true
sline_first (clocks x xs) z = refl
sline_first (line l) z = (rline_first l z).1

-- ---- members and groups

member_open : (two : Bool) (room : ℕ) (x : Spot) (ps : List Param) (z : List Terminal)
    → member_at two room (name x ∷ opening ∷ (closed_spelled param_spelled ps ++ equals ∷ z)) ≡ followed (expr_at two room z)
    (λ e. given (record { name = x; params = ps; body = e }))
unfolding member_at name_at symbol_at
member_open two room x ps z = rw (params_complete ps (equals ∷ z)) refl

member_complete : (two : Bool) (room : ℕ) (m : Member two) (rest : List Terminal) → EndsExpr rest
    → member_at two room (member_spelled m ++ rest) ≡ outcome (member_deep room m rest) (member_tree m) rest
member_complete two room m rest h =
    ap (λ q. member_at two room (name m.name ∷ opening ∷ q)) (append_assoc (list_spelled param_spelled m.params) (closing ∷ equals ∷ expr_spelled m.body) rest
    ∙ sym (append_assoc (list_spelled param_spelled m.params) (closing ∷ []) (equals ∷ (expr_spelled m.body ++ rest))))
    ∙ member_open two room m.name m.params (expr_spelled m.body ++ rest)
    ∙ rw (expr_complete two room m.body rest h)
    (outcome_last (expr_deep room m.body rest) (expr_tree m.body) rest (λ e. given (record { name = m.name; params = m.params; body = e })) (member_tree m)
    rest refl)

further_member_complete : (two : Bool) (room : ℕ) (m : Member two) (rest : List Terminal) → EndsExpr rest
    → further_member_at two room (further_member m ++ rest) ≡ outcome (member_deep room m rest) (member_tree m) rest
unfolding further_member_at word_at
further_member_complete two room m rest h = member_complete two room m rest h

members_complete : (two : Bool) (room : ℕ) (ms : List (Member two)) (z : List Terminal)
    → many (is_word w.And) (further_member_at two room) (flat_map further_member ms ++ semicolon ∷ z) ≡ outcome
    (all_deep (further_member {two = two}) (member_deep room) ms (semicolon ∷ z)) (map member_tree ms) (semicolon ∷ z)
members_complete two room ms z =
    many_complete (further_member {two = two}) (member_deep room) member_tree (is_word w.And) (further_member_at two room) EndsExpr (λ m. omega arith)
    (further_member_reads two room)
    (λ m z. refl) (λ m z. ends_and (member_spelled m ++ z)) (further_member_complete two room) ms (semicolon ∷ z) refl (ends_semicolon z)

-- what may follow a group's first member
members_end : {two : Bool} (ms : List (Member two)) (z : List Terminal) → EndsExpr (flat_map further_member ms ++ semicolon ∷ z)
members_end [] z = ends_semicolon z
members_end (m ∷ ms) z = ends_and ((member_spelled m ++ flat_map further_member ms) ++ semicolon ∷ z)

-- behind a group's first member
abbrev members_at : Bool → ℕ → PlainMember → Reader PlainDefinition
members_at two room v = many (is_word w.And) (further_member_at two room) >>= λ ms. symbol_at 59 >> given (DGroup (v ∷ ms))

group_open : (two : Bool) (room : ℕ) (z : List Terminal)
    → definition_at two room (word w.Expression ∷ z) ≡ followed (member_at two room z) (members_at two room)
unfolding definition_at group_at word_at
group_open two room z = refl

group_close : (v : PlainMember) (vs : List PlainMember) (z : List Terminal)
    → (symbol_at 59 >> given (DGroup (v ∷ vs))) (semicolon ∷ z) ≡ took (DGroup (v ∷ vs)) z
unfolding symbol_at
group_close v vs z = refl

group_complete : (two : Bool) (room : ℕ) (m : Member two) (ms : List (Member two)) (rest : List Terminal)
    → definition_at two room (definition_spelled (group m ms) ++ rest) ≡ outcome (definition_deep room (group m ms) rest) (definition_tree (group m ms)) rest
group_complete two room m ms rest =
    let z : List Terminal = flat_map further_member ms ++ semicolon ∷ rest in
    let o : Option (List Terminal) = all_deep (further_member {two = two}) (member_deep room) ms (semicolon ∷ rest) in
    rw (append_assoc (member_spelled m) (flat_map further_member ms ++ semicolon ∷ []) rest, append_assoc (flat_map further_member ms) (semicolon ∷ []) rest)
    (group_open two room (member_spelled m ++ z)
    ∙ rw (member_complete two room m z (members_end ms rest))
    (outcome_then (member_deep room m z) o (member_tree m) z (members_at two room) (DGroup (member_tree m ∷ map member_tree ms)) rest
    (rw (members_complete two room ms rest)
    (outcome_last o (map member_tree ms) (semicolon ∷ rest) (λ vs. symbol_at 59 >> given (DGroup (member_tree m ∷ vs)))
    (DGroup (member_tree m ∷ map member_tree ms)) rest
    (group_close (member_tree m) (map member_tree ms) rest)))))

-- ---- relations

lines_complete : (two : Bool) (room : ℕ) (ls : List (Rline two)) (z : List Terminal)
    → many no_brace (rline_at two room) (flat_map rline_spelled ls ++ right_brace ∷ z) ≡ outcome
    (all_deep (rline_spelled {two = two}) (rline_deep room) ls (right_brace ∷ z)) (map rline_tree ls) (right_brace ∷ z)
lines_complete two room ls z =
    many_complete (rline_spelled {two = two}) (rline_deep room) rline_tree no_brace (rline_at two room) (λ z. Unit {0}) rline_nonempty (rline_reads two room)
    (λ l z. (rline_first l z).1) (λ l z. tt) (λ l z h. rline_complete two room l z) ls (right_brace ∷ z) refl tt

-- behind a relation's first line
abbrev body_at : Bool → ℕ → Spot → List Param → Line → Reader PlainDefinition
body_at two room x ps v = many no_brace (rline_at two room) >>= λ ls. symbol_at 125 >> given (DRelation x ps (v ∷ ls))

relation_open : (two : Bool) (room : ℕ) (x : Spot) (ps : List Param) (z : List Terminal)
    → definition_at two room (word w.Relation ∷ name x ∷ opening ∷ (closed_spelled param_spelled ps ++ left_brace ∷ z)) ≡ followed (rline_at two room z)
    (body_at two room x ps)
unfolding definition_at relation_at word_at name_at symbol_at
relation_open two room x ps z = rw (params_complete ps (left_brace ∷ z)) refl

relation_close : (x : Spot) (ps : List Param) (v : Line) (vs : List Line) (z : List Terminal)
    → (symbol_at 125 >> given (DRelation x ps (v ∷ vs))) (right_brace ∷ z) ≡ took (DRelation x ps (v ∷ vs)) z
unfolding symbol_at
relation_close x ps v vs z = refl

relation_regrouped : (ps a b rest : List Terminal)
    → (ps ++ closing ∷ left_brace ∷ (a ++ (b ++ right_brace ∷ []))) ++ rest ≡ (ps ++ closing ∷ []) ++ left_brace ∷ (a ++ (b ++ right_brace ∷ rest))
relation_regrouped ps a b rest =
    rw (
      append_assoc ps (closing ∷ left_brace ∷ (a ++ (b ++ right_brace ∷ []))) rest,
      append_assoc a (b ++ right_brace ∷ []) rest,
      append_assoc b (right_brace ∷ []) rest,
    )
    (sym (append_assoc ps (closing ∷ []) (left_brace ∷ (a ++ (b ++ right_brace ∷ rest)))))

relation_complete : (two : Bool) (room : ℕ) (x : Spot) (ps : List Param) (l : Rline two) (ls : List (Rline two)) (rest : List Terminal)
    → definition_at two room (definition_spelled (relation x ps l ls) ++ rest) ≡ outcome (definition_deep room (relation x ps l ls) rest)
    (definition_tree (relation x ps l ls)) rest
relation_complete two room x ps l ls rest =
    let z : List Terminal = flat_map rline_spelled ls ++ right_brace ∷ rest in
    let o : Option (List Terminal) = all_deep (rline_spelled {two = two}) (rline_deep room) ls (right_brace ∷ rest) in
    ap (λ q. definition_at two room (word w.Relation ∷ name x ∷ opening ∷ q))
    (relation_regrouped (list_spelled param_spelled ps) (rline_spelled l) (flat_map rline_spelled ls) rest)
    ∙ relation_open two room x ps (rline_spelled l ++ z)
    ∙ rw (rline_complete two room l z)
    (outcome_then (rline_deep room l z) o (rline_tree l) z (body_at two room x ps) (DRelation x ps (rline_tree l ∷ map rline_tree ls)) rest
    (rw (lines_complete two room ls rest)
    (outcome_last o (map rline_tree ls) (right_brace ∷ rest) (λ vs. symbol_at 125 >> given (DRelation x ps (rline_tree l ∷ vs)))
    (DRelation x ps (rline_tree l ∷ map rline_tree ls)) rest
    (relation_close x ps (rline_tree l) (map rline_tree ls) rest))))

-- ---- files

definition_complete : (two : Bool) (room : ℕ) (d : Definition two) (rest : List Terminal)
    → definition_at two room (definition_spelled d ++ rest) ≡ outcome (definition_deep room d rest) (definition_tree d) rest
definition_complete two room (relation x ps l ls) rest = relation_complete two room x ps l ls rest
definition_complete two room (group m ms) rest = group_complete two room m ms rest

definition_first : {two : Bool} (d : Definition two) (z : List Terminal) → begins is_definition (definition_spelled d ++ z) ≡ true
definition_first (relation x ps l ls) z = refl
definition_first (group m ms) z = refl

definitions_complete : (two : Bool) (room : ℕ) (ds : List (Definition two)) (ls : List (Sline two))
    → many is_definition (definition_at two room) (flat_map definition_spelled ds ++ system_spelled ls) ≡ outcome
    (all_deep (definition_spelled {two = two}) (definition_deep room) ds (system_spelled ls)) (map definition_tree ds) (system_spelled ls)
definitions_complete two room ds ls =
    many_complete (definition_spelled {two = two}) (definition_deep room) definition_tree is_definition (definition_at two room) (λ z. Unit {0})
    definition_nonempty (definition_reads two room)
    definition_first (λ d z. tt) (λ d z h. definition_complete two room d z) ds (system_spelled ls) refl tt

system_open : (two : Bool) (room : ℕ) (z : List Terminal)
    → system_at two room (word w.System ∷ left_brace ∷ z) ≡ followed (many no_brace (sline_at two room) z) (λ ls. symbol_at 125 >> given ls)
unfolding system_at word_at symbol_at
system_open two room z = refl

system_close : (ls : List SLine) (z : List Terminal) → (symbol_at 125 >> given ls) (right_brace ∷ z) ≡ took ls z
unfolding symbol_at
system_close ls z = refl

system_complete : (two : Bool) (room : ℕ) (ls : List (Sline two))
    → system_at two room (system_spelled ls) ≡ outcome (all_deep (sline_spelled {two = two}) (sline_deep room) ls (right_brace ∷ [])) (map sline_tree ls) []
system_complete two room ls = system_open two room (flat_map sline_spelled ls ++ right_brace ∷ [])
    ∙ rw (many_complete (sline_spelled {two = two}) (sline_deep room) sline_tree no_brace (sline_at two room) (λ z. Unit {0}) sline_nonempty
    (sline_reads two room) sline_first (λ l z. tt) (λ l z h. sline_complete two room l z) ls (right_brace ∷ []) refl tt)
    (outcome_last (all_deep (sline_spelled {two = two}) (sline_deep room) ls (right_brace ∷ [])) (map sline_tree ls) (right_brace ∷ [])
    (λ v. symbol_at 125 >> given v) (map sline_tree ls) [] (system_close (map sline_tree ls) []))

-- behind the definitions
abbrev end_at : Bool → ℕ → List PlainDefinition → Reader PlainFile
end_at two room ds = system_at two room >>= λ ls. ends (record { version = version two; definitions = ds; lines = ls })

file_open : (two : Bool) (room at : ℕ) (z : List Terminal)
    → file_at room (word w.Ccsl ∷ number at (version two) ∷ semicolon ∷ z) ≡ followed (many is_definition (definition_at two room) z) (end_at two room)
unfolding file_at version_at word_at symbol_at
file_open true room at z = refl
file_open false room at z = refl

pub file_complete : (room : ℕ) (d : Derivation) → file_at room (file_spelled d) ≡ outcome (file_deep room d []) (file_tree d) []
file_complete room d =
    let s : List Terminal = system_spelled d.lines in
    let o : Option (List Terminal) = all_deep sline_spelled (sline_deep room) d.lines (right_brace ∷ []) in
    file_open d.two room d.at (flat_map definition_spelled d.definitions ++ s)
    ∙ rw (definitions_complete d.two room d.definitions d.lines, append-nil s)
    (outcome_then (all_deep definition_spelled (definition_deep room) d.definitions s) o (map definition_tree d.definitions) s (end_at d.two room) (file_tree d)
    []
    (rw (system_complete d.two room d.lines)
    (outcome_last o (map sline_tree d.lines) []
    (λ ls. ends (record { version = version d.two; definitions = map definition_tree d.definitions; lines = ls })) (file_tree d) [] refl)))
