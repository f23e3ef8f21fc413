-- What the canonical text is worth: it has tokens, and they have the tree that was printed, but for its places.
use Rattle.std.specs.Prelude.{◌≡◌, ℕ, ◌≤◌, List, map, IsTrue}
use Rattle.ccsl_base.specs.declared.limits.TheConstants.{MAX_LEVELS}
use Rattle.ccsl_lex.specs.declared.token.Token.{Token}
use Rattle.ccsl_lex.specs.Tokens.{PlainToken, plain_token, AreTokens}
use Rattle.ccsl_ast.specs.Trees.{PlainFile}
use Rattle.ccsl_ast.specs.Kept.{file_kept}
use Rattle.ccsl_ast.specs.Depth.{file_depth}
use Rattle.ccsl_grammar.specs.Terminals.{Terminal, seen_as, terminals}
use Rattle.ccsl_grammar.specs.File.{Parses}
use Rattle.ccsl_grammar.specs.Bare.{bares, bare_file}
use Rattle.ccsl_grammar.specs.Canonical.{canonical_terminals}
use Rattle.ccsl_print.specs.CanonicalText.{canonical_text}

-- what the grammar sees of a token
abbrev pub plain_terminal : PlainToken → Terminal
plain_terminal t = seen_as t.at t.kind

-- the text has tokens; they are the canonical ones of the file but for their places; and their tree, in which no expression
-- stands too deep, is the file but for its places
pub record ReadsBack (text : List ℕ) (f : PlainFile) : Type 0 where
  pub tokens : List PlainToken
  pub are : AreTokens text tokens
  pub canonical : bares (map plain_terminal tokens) ≡ bares (canonical_terminals f)
  pub tree : PlainFile
  pub parses : Parses MAX_LEVELS (map plain_terminal tokens) tree
  pub same : bare_file tree ≡ bare_file f

-- THE LAW: so it is with the canonical text of each file
abbrev pub CanonicalTextReadsBack : Type 0
CanonicalTextReadsBack = (f : PlainFile) → IsTrue (file_kept f) → file_depth f ≤ MAX_LEVELS → ReadsBack (canonical_text f) f

-- THE LAW: whatever tokens a text that reads back has, they have that tree
abbrev pub TokensReadBack : Type 0
TokensReadBack = (text : List ℕ) (f : PlainFile) → ReadsBack text f → (ts : List Token) → AreTokens text (map plain_token ts)
    → (g : PlainFile) × Parses MAX_LEVELS (terminals ts) g × (bare_file g ≡ bare_file f)
