-- The reader does not look at places, and so terminals that are those of a file but for their places have its tree but for its places.
use Rattle.std.proofs.Common.{◌≡◌, ℕ, zero, suc, Bool, List, [], ◌∷◌, map, refl, sym, ap, ◌∙◌}
use Rattle.ccsl_base.specs.declared.reserved.Reserved.TheVariants as w
use Rattle.ccsl_ast.specs.declared.spot.Spot.{Spot}
use Rattle.ccsl_ast.specs.declared.term.Term.{Term}
use Rattle.ccsl_ast.specs.declared.term.WordTerm.TheVariants as wterm
use Rattle.ccsl_ast.specs.declared.term.Test.TheVariants.{Equal, Less, Head, Ended}
use Rattle.ccsl_ast.specs.declared.term.Argument.TheVariants as arg
use Rattle.ccsl_ast.specs.declared.tree.BinaryOp.TheVariants as op
use Rattle.ccsl_ast.specs.declared.line.Relation.TheVariants as rel
use Rattle.ccsl_ast.specs.Trees.{Expression, EName, ECall, ENever, EBinary, EDelay, EAwait, EFilter, EDelayed, EIf, LDefine, LConstraint, LCall, SClocks}
use Rattle.ccsl_ast.specs.Trees.{SLineOf, DRelation, DGroup, PlainFile}
use Rattle.ccsl_grammar.specs.Terminals.{Terminal, word, symbol, name, number, quoted}
use Rattle.ccsl_grammar.specs.Kinds.{is_word, is_symbol, is_name, is_quoted}
use Rattle.ccsl_grammar.specs.Grammar.{version}
use Rattle.ccsl_grammar.specs.Reader.{no_syntax, too_deep, Reply, took, stopped, Reader, ◌>>=◌, given, many, ◌>>◌}
use Rattle.ccsl_grammar.specs.Parser.{name_at, num_of, num_at, quoted_of, quoted_at, further_at, list_at, prim_of, prim_at, sign_of, sign_at, is_sign}
use Rattle.ccsl_grammar.specs.Parser.{signed_at, term_at, wterm_at, comparison_at, test_at, arg_at, kind_of, kind_at, param_at, relop_of, goes_on_by, within_at}
use Rattle.ccsl_grammar.specs.Parser.{precedes_at, relop_at, binop_of, sampled_at, upto_at, binop_at, is_binop, named_at, parens_at, operand_at, binary_at}
use Rattle.ccsl_grammar.specs.Parser.{second_at, delayed_at, delay_at, await_at, filter_at, rest_at, branches_at, choice_at, expr_with, is_expr, no_room}
use Rattle.ccsl_grammar.specs.Parser.{expr_at, define_at, call_at, constraint_at, rline_at, clocks_at, sline_at, no_brace, relation_at, member_at}
use Rattle.ccsl_grammar.specs.Parser.{further_member_at, group_at, definition_at, is_definition, version_of, version_at, system_at, ends, file_at, word_at}
use Rattle.ccsl_grammar.specs.File.{Parses}
use Rattle.ccsl_grammar.specs.Verdict.{Verdict}
use Rattle.ccsl_grammar.specs.Bare.{bare_spot, bare, bares, bare_prim, bare_signed, bare_term, bare_wterm, bare_test, bare_arg, bare_param, bare_relop}
use Rattle.ccsl_grammar.specs.Bare.{bare_expression, bare_line, bare_sline, bare_member, bare_definition, bare_file}
use Rattle.ccsl_grammar.specs.Canonical.{canonical_terminals}
use Rattle.ccsl_grammar.specs.Laws.{CanonicalReadsBack}
use Rattle.ccsl_grammar.proofs.Blind.{bared, Blind, give, stop, bind, option_bare, one, either, again, word_same, symbol_same, name_same, quoted_same}
use Rattle.ccsl_grammar.proofs.Blind.{goes_on_same, sign_same, binop_same, expr_same, brace_same, definition_same, kept, option_kept, word_then, symbol_then}
use Rattle.ccsl_grammar.proofs.Blind.{name_blind}
use Rattle.ccsl_grammar.proofs.Verdict.{reader_is_right, one_verdict}
use Rattle.ccsl_grammar.proofs.Canonical.{canonical_parses}

-- ---- what stands in a table

-- a pair of a place and a value
abbrev bare_pair : {A : Type 0} → ℕ × A → ℕ × A
bare_pair p = (0, p.1)

num_is : (t : Terminal) → num_of (bare t) ≡ option_bare bare_pair (num_of t)
num_is (number at n) = refl
num_is _ = refl

quoted_is : (t : Terminal) → quoted_of (bare t) ≡ option_bare bare_pair (quoted_of t)
quoted_is (quoted at bytes) = refl
quoted_is _ = refl

prim_is : (t : Terminal) → prim_of (bare t) ≡ option_bare bare_prim (prim_of t)
prim_is (name x) = refl
prim_is _ = refl

sign_is : (t : Terminal) → sign_of (bare t) ≡ option_bare kept (sign_of t)
sign_is (symbol b) = option_kept (sign_of (symbol b))
sign_is _ = refl

kind_is : (t : Terminal) → kind_of (bare t) ≡ option_bare kept (kind_of t)
kind_is (word v) = option_kept (kind_of (word v))
kind_is _ = refl

relop_is : (t : Terminal) → relop_of (bare t) ≡ option_bare bare_relop (relop_of t)
relop_is (word w.Subclock) = refl
relop_is (word w.Coincides) = refl
relop_is (word w.Excludes) = refl
relop_is _ = refl

binop_is : (t : Terminal) → binop_of (bare t) ≡ option_bare kept (binop_of t)
binop_is (word v) = option_kept (binop_of (word v))
binop_is _ = refl

version_is : (t : Terminal) → version_of (bare t) ≡ option_bare kept (version_of t)
version_is (number at n) = option_kept (version_of (number 0 n))
version_is _ = refl

num_blind : Blind bare_pair num_at num_at
unfolding num_at
num_blind = one bare_pair num_of num_is

quoted_blind : Blind bare_pair quoted_at quoted_at
unfolding quoted_at
quoted_blind = one bare_pair quoted_of quoted_is

-- ---- the parts in which no expression stands

module _ {A : Type 0} (b : A → A) (item : Reader A) (h : Blind b item item) where
  further_blind : Blind b (further_at item) (further_at item)
  unfolding further_at
  further_blind = symbol_then b item item h 44

  furthers_blind : Blind (map b) (many (is_symbol 44) (further_at item)) (many (is_symbol 44) (further_at item))
  furthers_blind = again b (is_symbol 44) (symbol_same 44) (further_at item) further_blind

  list_blind : Blind (map b) (list_at item) (list_at item)
  unfolding list_at
  list_blind = either (map b) (is_symbol 41) (symbol_same 41) _ _ _ _
      (symbol_then (map b) _ _ (give (map b) []) 41)
      (bind b (map b) _ _ _ _ h (λ v. bind (map b) (map b) _ _ _ _ furthers_blind (λ vs. symbol_then (map b) _ _ (give (map b) (v ∷ vs)) 41)))

prim_blind : Blind bare_prim prim_at prim_at
unfolding prim_at
prim_blind = one bare_prim prim_of prim_is

signed_blind : Blind bare_signed signed_at signed_at
unfolding signed_at sign_at
signed_blind = bind kept bare_signed _ _ _ _ (one kept sign_of sign_is) (λ s. bind bare_prim bare_signed _ _ _ _ prim_blind (λ p. give bare_signed (s, p)))

term_blind : Blind bare_term term_at term_at
unfolding term_at
term_blind = bind bare_prim bare_term _ _ _ _ prim_blind
    (λ p. bind (map bare_signed) bare_term _ _ _ _ (again bare_signed is_sign sign_same signed_at signed_blind)
    (λ ps. give bare_term (record { first = p; rest = ps })))

-- what a name makes
named : {A : Type 0} (b : A → A) (whole : Spot → A) → ((x : Spot) → b (whole x) ≡ whole (bare_spot x))
    → Blind b (name_at >>= λ x. given (whole x)) (name_at >>= λ x. given (whole x))
named b whole h = bind bare_spot b _ _ _ _ name_blind (λ x. rw (← h x) (give b (whole x)))

wterm_blind : Blind bare_wterm wterm_at wterm_at
unfolding wterm_at
wterm_blind = either bare_wterm is_name name_same _ _ _ _ (named bare_wterm (λ x. wterm.Name x) (λ x. refl))
    (either bare_wterm (is_word w.Tail) (word_same w.Tail) _ _ _ _ (word_then bare_wterm _ _ (named bare_wterm (λ x. wterm.Tail x) (λ x. refl)) w.Tail)
    (bind bare_pair bare_wterm _ _ _ _ quoted_blind (λ q. give bare_wterm (wterm.Text q.0 q.1))))

arg_blind : Blind bare_arg arg_at arg_at
unfolding arg_at
arg_blind = either bare_arg is_quoted quoted_same _ _ _ _ (bind bare_pair bare_arg _ _ _ _ quoted_blind (λ q. give bare_arg (arg.Text q.0 q.1)))
    (either bare_arg (is_word w.Tail) (word_same w.Tail) _ _ _ _ (word_then bare_arg _ _ (named bare_arg (λ x. arg.Tail x) (λ x. refl)) w.Tail)
    (bind bare_term bare_arg _ _ _ _ term_blind (λ t. give bare_arg (arg.Term t))))

comparison_blind : (a : Term) → Blind bare_test (comparison_at (bare_term a)) (comparison_at a)
unfolding comparison_at
comparison_blind a = either bare_test (is_symbol 61) (symbol_same 61) _ _ _ _
    (symbol_then bare_test _ _ (bind bare_term bare_test _ _ _ _ term_blind (λ t. give bare_test (Equal a t))) 61)
    (symbol_then bare_test _ _ (bind bare_term bare_test _ _ _ _ term_blind (λ t. give bare_test (Less a t))) 60)

test_blind : Blind bare_test test_at test_at
unfolding test_at
test_blind = either bare_test (is_word w.Head) (word_same w.Head) _ _ _ _ (word_then bare_test _ _ (named bare_test (λ x. Head x) (λ x. refl)) w.Head)
    (either bare_test (is_word w.Ended) (word_same w.Ended) _ _ _ _ (word_then bare_test _ _ (named bare_test (λ x. Ended x) (λ x. refl)) w.Ended)
    (bind bare_term bare_test _ _ _ _ term_blind comparison_blind))

param_blind : Blind bare_param param_at param_at
unfolding param_at kind_at
param_blind = bind kept bare_param _ _ _ _ (one kept kind_of kind_is)
    (λ k. bind bare_spot bare_param _ _ _ _ name_blind (λ x. give bare_param (record { kind = k; name = x })))

within_blind : Blind bare_relop (word_at w.Within >> within_at) (word_at w.Within >> within_at)
unfolding within_at
within_blind = word_then bare_relop _ _ (bind bare_pair bare_relop _ _ _ _ num_blind (λ n. give bare_relop (rel.PrecedesWithin n.0 n.1))) w.Within

module _ (two : Bool) where
  relop_blind : Blind bare_relop (relop_at two) (relop_at two)
  unfolding relop_at precedes_at
  relop_blind = either bare_relop (is_word w.Precedes) (word_same w.Precedes) _ _ _ _
      (word_then bare_relop _ _
      (either bare_relop (is_word w.Weakly) (word_same w.Weakly) _ _ _ _ (word_then bare_relop _ _ (give bare_relop rel.PrecedesWeakly) w.Weakly)
      (either bare_relop (goes_on_by two w.Within) (goes_on_same two w.Within) _ _ _ _ within_blind (give bare_relop rel.Precedes))) w.Precedes)
      (one bare_relop relop_of relop_is)

  binop_blind : Blind kept (binop_at two) (binop_at two)
  unfolding binop_at sampled_at upto_at
  binop_blind = either kept (is_word w.Sampled) (word_same w.Sampled) _ _ _ _
      (word_then kept _ _ (either kept (is_word w.Weakly) (word_same w.Weakly) _ _ _ _
      (word_then kept _ _ (word_then kept _ _ (give kept op.SampledWeakly) w.On) w.Weakly)
      (word_then kept _ _ (give kept op.Sampled) w.On)) w.Sampled)
      (either kept (is_word w.Upto) (word_same w.Upto) _ _ _ _
      (word_then kept _ _ (either kept (goes_on_by two w.Weakly) (goes_on_same two w.Weakly) _ _ _ _ (word_then kept _ _ (give kept op.UptoWeakly) w.Weakly)
      (give kept op.Upto)) w.Upto)
      (one kept binop_of binop_is))

-- ---- expressions

args_blind : Blind (map bare_arg) (list_at arg_at) (list_at arg_at)
args_blind = list_blind bare_arg arg_at arg_blind

named_blind : (x : Spot) → Blind bare_expression (named_at (bare_spot x)) (named_at x)
unfolding named_at
named_blind x = either bare_expression (is_symbol 40) (symbol_same 40) _ _ _ _
    (symbol_then bare_expression _ _ (bind (map bare_arg) bare_expression _ _ _ _ args_blind (λ args. give bare_expression (ECall x args))) 40)
    (give bare_expression (EName x))

delay_blind : (a : Expression) → Blind bare_expression (word_at w.Delay >> delay_at (bare_expression a)) (word_at w.Delay >> delay_at a)
unfolding delay_at
delay_blind a = word_then bare_expression _ _ (bind bare_term bare_expression _ _ _ _ term_blind (λ m. give bare_expression (EDelay a m))) w.Delay

await_blind : (a : Expression) → Blind bare_expression (word_at w.Await >> await_at (bare_expression a)) (word_at w.Await >> await_at a)
unfolding await_at
await_blind a = word_then bare_expression _ _ (bind bare_term bare_expression _ _ _ _ term_blind (λ m. give bare_expression (EAwait a m))) w.Await

filter_blind : (a : Expression) → Blind bare_expression (word_at w.Filter >> filter_at (bare_expression a)) (word_at w.Filter >> filter_at a)
unfolding filter_at
filter_blind a = word_then bare_expression _ _ (bind bare_wterm bare_expression _ _ _ _ wterm_blind (λ m. give bare_expression (EFilter a m))) w.Filter

module _ (two : Bool) (inner : Reader Expression) (h : Blind bare_expression inner inner) where
  operand_blind : Blind bare_expression (operand_at inner) (operand_at inner)
  unfolding operand_at parens_at
  operand_blind = either bare_expression is_name name_same _ _ _ _ (bind bare_spot bare_expression _ _ _ _ name_blind named_blind)
      (either bare_expression (is_word w.Never) (word_same w.Never) _ _ _ _ (word_then bare_expression _ _ (give bare_expression ENever) w.Never)
      (symbol_then bare_expression _ _ (bind bare_expression bare_expression _ _ _ _ h (λ e. symbol_then bare_expression _ _ (give bare_expression e) 41)) 40))

  module _ (a : Expression) where
    binary_blind : Blind bare_expression (binary_at inner two (bare_expression a)) (binary_at inner two a)
    unfolding binary_at second_at
    binary_blind = bind kept bare_expression _ _ _ _ (binop_blind two)
        (λ o. bind bare_expression bare_expression _ _ _ _ operand_blind (λ d. give bare_expression (EBinary o a d)))

    delayed_blind : Blind bare_expression (word_at w.Delayed >> delayed_at inner (bare_expression a)) (word_at w.Delayed >> delayed_at inner a)
    unfolding delayed_at
    delayed_blind = word_then bare_expression _ _ (bind bare_pair bare_expression _ _ _ _ num_blind
        (λ n. word_then bare_expression _ _ (bind bare_expression bare_expression _ _ _ _ operand_blind (λ d. give bare_expression (EDelayed a n.0 n.1 d)))
        w.On)) w.Delayed

    rest_blind : Blind bare_expression (rest_at inner two (bare_expression a)) (rest_at inner two a)
    unfolding rest_at
    rest_blind = either bare_expression is_binop binop_same _ _ _ _ binary_blind
        (either bare_expression (is_word w.Delay) (word_same w.Delay) _ _ _ _ (delay_blind a)
        (either bare_expression (is_word w.Await) (word_same w.Await) _ _ _ _ (await_blind a)
        (either bare_expression (is_word w.Filter) (word_same w.Filter) _ _ _ _ (filter_blind a)
        (either bare_expression (is_word w.Delayed) (word_same w.Delayed) _ _ _ _ delayed_blind
        (give bare_expression a)))))

  with_blind : Blind bare_expression (expr_with inner two) (expr_with inner two)
  unfolding expr_with choice_at branches_at
  with_blind = either bare_expression (is_word w.If) (word_same w.If) _ _ _ _
      (word_then bare_expression _ _ (bind bare_test bare_expression _ _ _ _ test_blind (λ q. word_then bare_expression _ _
      (bind bare_expression bare_expression _ _ _ _ h
      (λ a. word_then bare_expression _ _ (bind bare_expression bare_expression _ _ _ _ h (λ d. give bare_expression (EIf q a d))) w.Else)) w.Use)) w.If)
      (bind bare_expression bare_expression _ _ _ _ operand_blind rest_blind)

expr_blind : (two : Bool) (room : ℕ) → Blind bare_expression (expr_at two room) (expr_at two room)
unfolding expr_at no_room
expr_blind two zero = either bare_expression is_expr expr_same _ _ _ _ (stop bare_expression too_deep) (stop bare_expression no_syntax)
expr_blind two (suc room) = with_blind two (expr_at two room) (expr_blind two room)

-- ---- lines, definitions, files

params_blind : Blind (map bare_param) (list_at param_at) (list_at param_at)
params_blind = list_blind bare_param param_at param_blind

module _ (two : Bool) (room : ℕ) where
  rline_blind : Blind bare_line (rline_at two room) (rline_at two room)
  unfolding rline_at define_at call_at constraint_at
  rline_blind = either bare_line (is_word w.Define) (word_same w.Define) _ _ _ _
      (word_then bare_line _ _
      (bind bare_spot bare_line _ _ _ _ name_blind
      (λ x. symbol_then bare_line _ _
      (bind bare_expression bare_line _ _ _ _ (expr_blind two room) (λ e. symbol_then bare_line _ _ (give bare_line (LDefine x e)) 59)) 61))
      w.Define)
      (bind bare_spot bare_line _ _ _ _ name_blind (λ x. either bare_line (is_symbol 40) (symbol_same 40) _ _ _ _
      (symbol_then bare_line _ _ (bind (map bare_arg) bare_line _ _ _ _ args_blind (λ args. symbol_then bare_line _ _ (give bare_line (LCall x args)) 59)) 40)
      (bind bare_relop bare_line _ _ _ _ (relop_blind two)
      (λ r. bind bare_spot bare_line _ _ _ _ name_blind (λ y. symbol_then bare_line _ _ (give bare_line (LConstraint x r y)) 59)))))

  sline_blind : Blind bare_sline (sline_at two room) (sline_at two room)
  unfolding sline_at clocks_at
  sline_blind = either bare_sline (is_word w.Clock) (word_same w.Clock) _ _ _ _
      (word_then bare_sline _ _
      (bind bare_spot bare_sline _ _ _ _ name_blind
      (λ x. bind (map bare_spot) bare_sline _ _ _ _ (furthers_blind bare_spot name_at name_blind)
      (λ xs. symbol_then bare_sline _ _ (give bare_sline (SClocks (x ∷ xs))) 59))) w.Clock)
      (bind bare_line bare_sline _ _ _ _ rline_blind (λ l. give bare_sline (SLineOf l)))

  relation_blind : Blind bare_definition (word_at w.Relation >> relation_at two room) (word_at w.Relation >> relation_at two room)
  unfolding relation_at
  relation_blind = word_then bare_definition _ _
      (bind bare_spot bare_definition _ _ _ _ name_blind (λ x. symbol_then bare_definition _ _ (bind (map bare_param) bare_definition _ _ _ _ params_blind
      (λ ps. symbol_then bare_definition _ _
      (bind bare_line bare_definition _ _ _ _ rline_blind
      (λ l. bind (map bare_line) bare_definition _ _ _ _ (again bare_line no_brace brace_same (rline_at two room) rline_blind)
      (λ ls. symbol_then bare_definition _ _ (give bare_definition (DRelation x ps (l ∷ ls))) 125))) 123)) 40)) w.Relation

  member_blind : Blind bare_member (member_at two room) (member_at two room)
  unfolding member_at
  member_blind = bind bare_spot bare_member _ _ _ _ name_blind (λ x. symbol_then bare_member _ _ (bind (map bare_param) bare_member _ _ _ _ params_blind
      (λ ps. symbol_then bare_member _ _
      (bind bare_expression bare_member _ _ _ _ (expr_blind two room) (λ e. give bare_member (record { name = x; params = ps; body = e }))) 61)) 40)

  group_blind : Blind bare_definition (word_at w.Expression >> group_at two room) (word_at w.Expression >> group_at two room)
  unfolding group_at further_member_at
  group_blind = word_then bare_definition _ _ (bind bare_member bare_definition _ _ _ _ member_blind (λ m. bind (map bare_member) bare_definition _ _ _ _
      (again bare_member (is_word w.And) (word_same w.And) _ (word_then bare_member _ _ member_blind w.And))
      (λ ms. symbol_then bare_definition _ _ (give bare_definition (DGroup (m ∷ ms))) 59))) w.Expression

  definition_blind : Blind bare_definition (definition_at two room) (definition_at two room)
  unfolding definition_at
  definition_blind = either bare_definition (is_word w.Relation) (word_same w.Relation) _ _ _ _ relation_blind group_blind

  system_blind : Blind (map bare_sline) (system_at two room) (system_at two room)
  unfolding system_at
  system_blind = word_then (map bare_sline) _ _
      (symbol_then (map bare_sline) _ _ (bind (map bare_sline) (map bare_sline) _ _ _ _ (again bare_sline no_brace brace_same (sline_at two room) sline_blind)
      (λ ls. symbol_then (map bare_sline) _ _ (give (map bare_sline) ls) 125)) 123) w.System

version_blind : Blind kept version_at version_at
unfolding version_at
version_blind = word_then kept _ _ (bind kept kept _ _ _ _ (one kept version_of version_is) (λ two. symbol_then kept _ _ (give kept two) 59)) w.Ccsl

ends_at : (f : PlainFile) (ts : List Terminal) → ends (bare_file f) (bares ts) ≡ bared bare_file (ends f ts)
ends_at f [] = refl
ends_at f (t ∷ ts) = refl

file_blind : (room : ℕ) → Blind bare_file (file_at room) (file_at room)
unfolding file_at
file_blind room = bind kept bare_file _ _ _ _ version_blind
    (λ two. bind (map bare_definition) bare_file _ _ _ _
    (again bare_definition is_definition definition_same (definition_at two room) (definition_blind two room))
    (λ ds. bind (map bare_sline) bare_file _ _ _ _ (system_blind two room)
    (λ ls. record { at = ends_at (record { version = version two; definitions = ds; lines = ls }) })))

-- ---- the law

read_back : (room : ℕ) (f : PlainFile) (ts : List Terminal) (r : Reply PlainFile) → bared bare_file r ≡ took (bare_file f) [] → Verdict room ts r
    → (g : PlainFile) × Parses room ts g × (bare_file g ≡ bare_file f)
read_back room f ts (took g rest) e v = (g, v.0, cc)
read_back room f ts (stopped k rest) e v = absurd cc

pub canonical_reads_back : CanonicalReadsBack
canonical_reads_back room f k d ts e =
    let c : file_at room (canonical_terminals f) ≡ took f [] = one_verdict room (canonical_terminals f) (took f []) (canonical_parses room f k d, refl) in
    read_back room f ts (file_at room ts)
    (sym ((file_blind room).at ts) ∙ ap (file_at room) e ∙ (file_blind room).at (canonical_terminals f) ∙ ap (bared bare_file) c)
    (reader_is_right room ts)
