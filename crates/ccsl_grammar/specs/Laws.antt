-- The laws of the grammar.
use Rattle.std.specs.Prelude.{◌≡◌, ℕ, ◌≤◌, List, IsTrue}
use Rattle.ccsl_lex.specs.declared.token.Token.{Token}
use Rattle.ccsl_ast.specs.Trees.{PlainFile}
use Rattle.ccsl_ast.specs.Depth.{file_depth}
use Rattle.ccsl_ast.specs.Kept.{file_kept}
use Rattle.ccsl_grammar.specs.Terminals.{Terminal, terminals}
use Rattle.ccsl_grammar.specs.Reader.{Reply}
use Rattle.ccsl_grammar.specs.Parser.{file_at}
use Rattle.ccsl_grammar.specs.File.{IsFile, Parses}
use Rattle.ccsl_grammar.specs.Verdict.{Verdict}
use Rattle.ccsl_grammar.specs.Canonical.{canonical_terminals}
use Rattle.ccsl_grammar.specs.Kept.{kept}
use Rattle.ccsl_grammar.specs.Bare.{bares, bare_file}

-- a list of terminals has at most one tree, whatever its depth
abbrev pub OneTree : Type 0
OneTree = (ts : List Terminal) (f g : PlainFile) → IsFile ts f → IsFile ts g → f ≡ g

-- the reader's reply is true of the terminals, for every limit on levels
abbrev pub ReaderIsRight : Type 0
ReaderIsRight = (room : ℕ) (ts : List Terminal) → Verdict room ts (file_at room ts)

-- one reply alone is true of the terminals
abbrev pub OneVerdict : Type 0
OneVerdict = (room : ℕ) (ts : List Terminal) (r : Reply PlainFile) → Verdict room ts r → file_at room ts ≡ r

-- no text of a file is less deep than the file
abbrev pub LeastDepth : Type 0
LeastDepth = (room : ℕ) (ts : List Terminal) (f : PlainFile) → Parses room ts f → file_depth f ≤ room

-- what the tokens of a file keep, the file keeps
abbrev pub FileKeeps : Type 0
FileKeeps = (ts : List Token) (f : PlainFile) → IsFile (terminals ts) f → IsTrue (file_kept f)

-- what a file keeps, its canonical terminals keep
abbrev pub CanonicalKeeps : Type 0
CanonicalKeeps = (f : PlainFile) → IsTrue (file_kept f) → IsTrue (kept (canonical_terminals f))

-- the canonical terminals of a file have the tree that they were made from, and are no deeper than the file
abbrev pub CanonicalParses : Type 0
CanonicalParses = (room : ℕ) (f : PlainFile) → IsTrue (file_kept f) → file_depth f ≤ room → Parses room (canonical_terminals f) f

-- terminals that are the canonical ones but for their places have a tree that is the file but for its places,
-- and are no deeper than the file
abbrev pub CanonicalReadsBack : Type 0
CanonicalReadsBack = (room : ℕ) (f : PlainFile) → IsTrue (file_kept f) → file_depth f ≤ room
    → (ts : List Terminal) → bares ts ≡ bares (canonical_terminals f)
    → (g : PlainFile) × Parses room ts g × (bare_file g ≡ bare_file f)
