-- WHAT THE TEXT OF A SPECIFICATION IS: a system, or refused with a line of report.
use Rattle.std.specs.Prelude.{◌≡◌, ℕ, ◌<◌, ◌≤◌, List, length, map, Some, None}
use Rattle.ccsl_base.specs.declared.limits.TheConstants.{MAX_SPEC_BYTES, MAX_LEVELS}
use Rattle.ccsl_lex.specs.declared.token.Token.{Token}
use Rattle.ccsl_lex.specs.declared.fault.LexFault.{LexFault}
use Rattle.ccsl_lex.specs.Tokens.{AreTokens, IsFirstFault, plain_token}
use Rattle.ccsl_ast.specs.Trees.{PlainFile}
use Rattle.ccsl_grammar.specs.Terminals.{terminals}
use Rattle.ccsl_grammar.specs.File.{Parses}
use Rattle.ccsl_grammar.specs.Faults.{SyntaxAt, TooDeepAt}
use Rattle.ccsl_parse.specs.declared.fault.ParseFault.{ParseFault}
use Rattle.ccsl_parse.specs.declared.fault.ParseFault.TheVariants.{Syntax, TooDeep, Memory}
use Rattle.ccsl_kernel.specs.Syntax.{System}
use Rattle.ccsl_rules.specs.declared.refusal.Refusal.{Refusal}
use Rattle.ccsl_rules.specs.Elaborated.{refusal}
use Rattle.ccsl_rules.specs.Expansion.{expand}
use Rattle.ccsl_library.specs.Library.{the_library}
use Rattle.ccsl_report.specs.Texts.{spec_too_long_text, lex_text, parse_text, refusal_text}

-- the text has tokens, and they have this tree
pub record HasTree (text : List ℕ) (file : PlainFile) : Type 0 where
  pub tokens : List Token
  pub are : AreTokens text (map plain_token tokens)
  pub parses : Parses MAX_LEVELS (terminals tokens) file

-- the tokens have no tree within the levels, for this fault
abbrev pub IsNoTree : ParseFault → List Token → Type 0
IsNoTree (Syntax at) tokens = SyntaxAt MAX_LEVELS tokens at
IsNoTree (TooDeep at) tokens = TooDeepAt MAX_LEVELS tokens at
IsNoTree Memory tokens = ⊥

-- the text has tokens, and no tree
pub record HasNoTree (text : List ℕ) (fault : ParseFault) : Type 0 where
  pub tokens : List Token
  pub are : AreTokens text (map plain_token tokens)
  pub none : IsNoTree fault tokens

-- AN ACCEPTED SPECIFICATION: not too long, with a tree that is not refused behind the library; the system is the expansion
pub record IsSystemOf (text : List ℕ) (K : System) : Type 0 where
  pub short : length text ≤ MAX_SPEC_BYTES
  pub file : PlainFile
  pub tree : HasTree text file
  pub accepted : refusal the_library file ≡ None
  pub system : K ≡ expand the_library file

-- A REFUSED SPECIFICATION, in the order of the refusals
pub data IsRefusedWith (text line : List ℕ) : Type 0 where
  too_long : (long : MAX_SPEC_BYTES < length text) (is : line ≡ spec_too_long_text) → IsRefusedWith text line
  no_tokens : (short : length text ≤ MAX_SPEC_BYTES) (fault : LexFault) (first : IsFirstFault fault text) (is : line ≡ lex_text fault) →
      IsRefusedWith text line
  no_tree : (short : length text ≤ MAX_SPEC_BYTES) (fault : ParseFault) (none : HasNoTree text fault) (is : line ≡ parse_text fault) →
      IsRefusedWith text line
  no_system : (short : length text ≤ MAX_SPEC_BYTES) (file : PlainFile) (tree : HasTree text file) (r : Refusal)
      (refused : refusal the_library file ≡ Some r) (is : line ≡ refusal_text r) → IsRefusedWith text line
