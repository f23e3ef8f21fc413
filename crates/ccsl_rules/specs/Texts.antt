-- The quoted texts of trees, in text order: one word of the system each.
use Rattle.std.specs.Prelude.{ℕ, List, [], ◌∷◌, ◌++◌, flat_map}
use Rattle.ccsl_ast.specs.declared.term.WordTerm.{WordTerm}
use Rattle.ccsl_ast.specs.declared.term.WordTerm.TheVariants as word
use Rattle.ccsl_ast.specs.declared.term.Argument.{Argument}
use Rattle.ccsl_ast.specs.declared.term.Argument.TheVariants as arg
use Rattle.ccsl_ast.specs.Trees.{Expression, ECall, EBinary, EDelay, EAwait, EFilter, EDelayed, EIf, Line, LDefine, LConstraint, LCall, SLine, SClocks, SLineOf}
use Rattle.ccsl_ast.specs.Trees.{PlainDefinition, DRelation, DGroup, PlainFile}

abbrev pub word_texts : WordTerm → List (List ℕ)
word_texts (word.Text at text) = text ∷ []
word_texts _ = []

abbrev pub argument_texts : Argument → List (List ℕ)
argument_texts (arg.Text at text) = text ∷ []
argument_texts _ = []

abbrev pub texts : Expression → List (List ℕ)
texts (ECall s args) = flat_map argument_texts args
texts (EBinary op a d) = texts a ++ texts d
texts (EDelay a m) = texts a
texts (EAwait a m) = texts a
texts (EFilter a w) = texts a ++ word_texts w
texts (EDelayed a at m d) = texts a ++ texts d
texts (EIf q a d) = texts a ++ texts d
texts _ = []

abbrev pub line_texts : Line → List (List ℕ)
line_texts (LDefine s e) = texts e
line_texts (LConstraint a r b) = []
line_texts (LCall s args) = flat_map argument_texts args

abbrev pub entry_texts : SLine → List (List ℕ)
entry_texts (SClocks names) = []
entry_texts (SLineOf l) = line_texts l

abbrev pub block_texts : PlainDefinition → List (List ℕ)
block_texts (DRelation name params lines) = flat_map line_texts lines
block_texts (DGroup members) = flat_map (λ m. texts m.body) members

abbrev pub sheet_texts : PlainFile → List (List ℕ)
sheet_texts f = flat_map block_texts f.definitions ++ flat_map entry_texts f.lines
