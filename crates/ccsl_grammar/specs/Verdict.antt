-- What a reply says of terminals.
use Rattle.std.specs.Prelude.{◌≡◌, ℕ, List, [], ◌++◌}
use Rattle.ccsl_ast.specs.Trees.{PlainFile}
use Rattle.ccsl_grammar.specs.Terminals.{Terminal}
use Rattle.ccsl_grammar.specs.Reader.{no_syntax, too_deep, Reply, took, stopped}
use Rattle.ccsl_grammar.specs.File.{Parses, DeepAt, FailsAt}

-- what a reply says of the terminals ts: they have the tree; or the fault begins with rest
abbrev pub Verdict : ℕ → List Terminal → Reply PlainFile → Type 0
Verdict room ts (took f rest) = Parses room ts f × (rest ≡ [])
Verdict room ts (stopped no_syntax rest) = (front : List Terminal) × (ts ≡ front ++ rest) × FailsAt room front rest
Verdict room ts (stopped too_deep rest) = (front : List Terminal) × (ts ≡ front ++ rest) × DeepAt room front rest
