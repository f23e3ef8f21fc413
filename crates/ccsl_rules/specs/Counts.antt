-- How many clocks and constraints a file expands to, or what they weigh, counted without expanding it. Sums stop at 4,294,967,295.
use Rattle.std.specs.Prelude.{ℕ, ◌+◌, List, [], ◌∷◌, ◌++◌, map, min, slice_get, Option, Some, None}
use Rattle.ccsl_ast.specs.Trees.{Expression, Line, LDefine, LConstraint, LCall, SLine, SClocks, SLineOf, PlainDefinition, DRelation, DGroup, PlainFile}
use Rattle.ccsl_rules.specs.Spaces.{Known, Callee, look, calls_space}
use Rattle.ccsl_rules.specs.Unfolded.{Item, Defines, Binds}

abbrev pub cut : ℕ → ℕ
cut n = min n 4294967295

-- what a definition, by its expression, and what a constraint counts: 1 and 0 for clocks, 0 and 1 for constraints
pub record Weights : Type 0 where
  pub definition : Expression → ℕ
  pub constraint : ℕ

abbrev pub clock_weights : Weights
clock_weights = record { definition = λ e. 1; constraint = 0 }

abbrev pub constraint_weights : Weights
constraint_weights = record { definition = λ e. 0; constraint = 1 }

-- the weight of an expansion
abbrev pub item_weight : Weights → Item → ℕ
item_weight w (Defines path name σ k e) = w.definition e
item_weight w (Binds path σ a r b) = w.constraint

abbrev pub weight : Weights → List Item → ℕ
weight w [] = 0
weight w (x ∷ xs) = item_weight w x + weight w xs

-- THE COUNT of lines, by the counts of the earlier definitions
abbrev pub count_at : Option ℕ → ℕ
count_at None = 0
count_at (Some n) = n

abbrev pub count_of : List (Known Callee) → List ℕ → List ℕ → ℕ
count_of calls C name = elim (look name calls) [ None ↦ 0 | Some k ↦ count_at (slice_get C k.what.block) ]

module _ (w : Weights) (calls : List (Known Callee)) where
  abbrev pub line_count : List ℕ → Line → ℕ
  line_count C (LDefine s e) = cut (w.definition e)
  line_count C (LConstraint a r b) = cut w.constraint
  line_count C (LCall s args) = count_of calls C s.name

  abbrev pub entry_count : List ℕ → SLine → ℕ
  entry_count C (SClocks names) = 0
  entry_count C (SLineOf l) = line_count C l

  abbrev pub body_count : List ℕ → List SLine → ℕ
  body_count C [] = 0
  body_count C (e ∷ es) = cut (entry_count C e + body_count C es)

  abbrev pub block_count : List ℕ → PlainDefinition → ℕ
  block_count C (DRelation name params lines) = body_count C (map SLineOf lines)
  block_count C (DGroup members) = 0

  -- the counts of all definitions, each from those before it
  abbrev pub counts : List ℕ → List PlainDefinition → List ℕ
  counts C [] = C
  counts C (b ∷ bs) = counts (C ++ block_count C b ∷ []) bs

  -- the count of a file behind a library, by what `calls` says of names
  abbrev pub count_behind : PlainFile → PlainFile → ℕ
  count_behind library file = body_count (counts (counts [] library.definitions) file.definitions) file.lines

-- the count of a file behind a library
abbrev pub file_count : Weights → PlainFile → PlainFile → ℕ
file_count w library file = count_behind w (calls_space 0 0 (library.definitions ++ file.definitions)) library file
