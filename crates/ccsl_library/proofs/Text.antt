-- The library's text has the library's tree.
use Rattle.std.proofs.Common.{◌≡◌, List, [], ◌∷◌, map, true, refl, sym, ap, ◌∙◌, subst}
use Rattle.ccsl_base.specs.ReservedWords.{reserved}
use Rattle.ccsl_base.specs.declared.limits.TheConstants.{MAX_LEVELS}
use Rattle.ccsl_lex.specs.declared.token.Token.{Token}
use Rattle.ccsl_lex.specs.Tokens.{Piece, PlainToken, plain_token, AreTokens, tokens_of}
use Rattle.ccsl_grammar.specs.Terminals.{Terminal, seen_as, terminals}
use Rattle.ccsl_grammar.specs.Reader.{took, many}
use Rattle.ccsl_grammar.specs.File.{Parses}
use Rattle.ccsl_grammar.specs.Verdict.{Verdict}
use Rattle.ccsl_grammar.specs.Parser.{word_at, symbol_at, name_at, num_at, quoted_at, further_at, list_at, prim_at, sign_at, signed_at, term_at, wterm_at}
use Rattle.ccsl_grammar.specs.Parser.{comparison_at, test_at, arg_at, kind_at, param_at, precedes_at, relop_at, within_at, upto_at, sampled_at, binop_at}
use Rattle.ccsl_grammar.specs.Parser.{named_at, parens_at, operand_at, binary_at, second_at, delayed_at, delay_at, await_at, filter_at, rest_at, branches_at}
use Rattle.ccsl_grammar.specs.Parser.{choice_at, expr_with, no_room, expr_at, define_at, call_at, constraint_at, rline_at, clocks_at, sline_at, relation_at}
use Rattle.ccsl_grammar.specs.Parser.{member_at, further_member_at, group_at, definition_at, version_at, system_at, file_at}
use Rattle.ccsl_grammar.proofs.Verdict.{reader_is_right}
use Rattle.ccsl_library.specs.declared.source.TheConstants.{TEXT}
use Rattle.ccsl_library.specs.Library.{the_library}
use Rattle.ccsl_library.specs.Laws.{HasTree}
use Rattle.ccsl_library.proofs.Cut.{pieces, are_cut, cut}

abbrev all : List Piece
all = pieces 460 TEXT.now

abbrev pub found : List PlainToken
found = tokens_of 0 all

cut-so : are_cut all ≡ true
cut-so = refl

pub are-tokens : AreTokens TEXT.now found
are-tokens = record { pieces = all; whole = refl; cut = cut all cut-so; fit = refl; are = refl }

abbrev seen : List Terminal
seen = map (λ t. seen_as t.at t.kind) found

read : file_at 128 seen ≡ took the_library []
unfolding reserved many word_at symbol_at name_at num_at quoted_at further_at list_at prim_at sign_at signed_at term_at wterm_at comparison_at test_at arg_at
    kind_at param_at precedes_at relop_at within_at upto_at sampled_at binop_at named_at parens_at operand_at binary_at second_at delayed_at delay_at await_at
    filter_at rest_at branches_at choice_at expr_with no_room expr_at define_at call_at constraint_at rline_at clocks_at sline_at relation_at member_at
    further_member_at group_at definition_at version_at system_at file_at
read = refl

seen-parses : Parses MAX_LEVELS seen the_library
seen-parses = (subst (Verdict 128 seen) read (reader_is_right 128 seen)).0

pub has-tree : HasTree TEXT.now the_library
has-tree = record { tokens = found; are = are-tokens; parses = seen-parses }

seen-again : (ts : List Token) → terminals ts ≡ map (λ t. seen_as t.at t.kind) (map plain_token ts)
seen-again [] = refl
seen-again (t ∷ ts) = ap (λ l. seen_as t.at t.kind ∷ l) (seen-again ts)

-- the tokens that the lexer finds have the tree
pub parses-as : (ts : List Token) → map plain_token ts ≡ found → Parses MAX_LEVELS (terminals ts) the_library
parses-as ts e = subst (λ ss. Parses MAX_LEVELS ss the_library) (sym (seen-again ts ∙ ap (map (λ t. seen_as t.at t.kind)) e)) seen-parses
