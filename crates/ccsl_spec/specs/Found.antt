-- What the parts of reading a specification answer.
use Rattle.std.specs.Prelude.{◌≡◌, ℕ, List, Some, None}
use Rattle.ccsl_lex.specs.declared.fault.LexFault.{LexFault}
use Rattle.ccsl_lex.specs.Tokens.{IsFirstFault}
use Rattle.ccsl_ast.specs.Files.{plain_file}
use Rattle.ccsl_ast.specs.Trees.{PlainFile}
use Rattle.ccsl_parse.specs.declared.fault.ParseFault.{ParseFault}
use Rattle.ccsl_kernel.specs.Syntax.{System}
use Rattle.ccsl_rules.specs.declared.refusal.Refusal.{Refusal}
use Rattle.ccsl_rules.specs.Elaborated.{refusal}
use Rattle.ccsl_rules.specs.Expansion.{expand}
use Rattle.ccsl_library.specs.Library.{the_library}
use Rattle.ccsl_report.specs.Texts.{lex_text, parse_text, refusal_text}
use Rattle.ccsl_spec.specs.declared.specification.Specification.{Specification}
use Rattle.ccsl_spec.specs.declared.specification.Specification.TheVariants as spec
use Rattle.ccsl_spec.specs.declared.specification.Tree.{Tree}
use Rattle.ccsl_spec.specs.declared.specification.Tree.TheVariants as tree
use Rattle.ccsl_spec.specs.Specifications.{HasTree, HasNoTree, IsSystemOf, IsRefusedWith}

-- the line on a text without a tree
pub data IsTreeless (text line : List ℕ) : Type 0 where
  of_tokens : (fault : LexFault) (first : IsFirstFault fault text) (is : line ≡ lex_text fault) → IsTreeless text line
  of_syntax : (fault : ParseFault) (none : HasNoTree text fault) (is : line ≡ parse_text fault) → IsTreeless text line

abbrev pub IsTree : List ℕ → Tree → Type 0
IsTree text (tree.Read file) = HasTree text (plain_file file)
IsTree text (tree.Refused line) = IsTreeless text line.items

-- the line on a refused tree
pub record IsUnelaborated (file : PlainFile) (line : List ℕ) : Type 0 where
  pub r : Refusal
  pub refused : refusal the_library file ≡ Some r
  pub is : line ≡ refusal_text r

pub record IsElaboratedAs (file : PlainFile) (K : System) : Type 0 where
  pub accepted : refusal the_library file ≡ None
  pub system : K ≡ expand the_library file

abbrev pub IsElaborated : PlainFile → Specification → Type 0
IsElaborated file (spec.Accepted system) = IsElaboratedAs file system
IsElaborated file (spec.Refused line) = IsUnelaborated file line.items

-- what a specification that was read says of its text
abbrev pub IsRead : List ℕ → Specification → Type 0
IsRead text (spec.Accepted system) = IsSystemOf text system
IsRead text (spec.Refused line) = IsRefusedWith text line.items
