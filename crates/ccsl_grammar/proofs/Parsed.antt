-- What a file keeps, of the tree of tokens.
use Rattle.std.proofs.Common.{ℕ, ◌≤◌, List}
use Rattle.std.specs.Prelude.{IsTrue}
use Rattle.ccsl_lex.specs.declared.token.Token.{Token}
use Rattle.ccsl_ast.specs.Trees.{PlainFile}
use Rattle.ccsl_ast.specs.Depth.{file_depth}
use Rattle.ccsl_ast.specs.Kept.{file_kept}
use Rattle.ccsl_grammar.specs.Terminals.{Terminal, terminals}
use Rattle.ccsl_grammar.specs.File.{Parses}
use Rattle.ccsl_grammar.proofs.Keeps.{file_keeps}
use Rattle.ccsl_grammar.proofs.Least.{least_depth}

pub parsed_keeps : (room : ℕ) (ts : List Token) (f : PlainFile) → Parses room (terminals ts) f → IsTrue (file_kept f)
parsed_keeps room ts f p = file_keeps ts f p.is

pub parsed_depth : (room : ℕ) (ts : List Terminal) (f : PlainFile) → Parses room ts f → file_depth f ≤ room
parsed_depth = least_depth
