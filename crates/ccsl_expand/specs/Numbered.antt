-- Definitions with the numbers of their first texts, and what the relations of such a list become.
use Rattle.std.specs.Prelude.{ℕ, ◌+◌, List, [], ◌∷◌, ◌++◌, length, Option, Some, None}
use Rattle.ccsl_ast.specs.declared.definition.Param.{Param}
use Rattle.ccsl_ast.specs.Trees.{PlainDefinition, DRelation, DGroup}
use Rattle.ccsl_words.specs.Word.{BinaryWord}
use Rattle.ccsl_words.specs.Spelling.{read_word}
use Rattle.ccsl_kernel.specs.Syntax.{Body}
use Rattle.ccsl_kernel.specs.Actuals.{word_or_empty}
use Rattle.ccsl_rules.specs.Spaces.{Known, Callee}
use Rattle.ccsl_rules.specs.Settings.{Atom, Setting}
use Rattle.ccsl_rules.specs.Texts.{block_texts}
use Rattle.ccsl_rules.specs.Resolved.{Tables}
use Rattle.ccsl_rules.specs.Unfolded.{Unfoldings, unfold_block}
use Rattle.ccsl_rules.specs.Expansion.{part_bodies}

-- the word of a text, an empty one where it does not read
abbrev pub word_in : List ℕ → BinaryWord
word_in text = word_or_empty (read_word text)

-- a definition, and the number of its first text
pub record NumberedDefinition : Type 0 where
  pub start : ℕ
  pub definition : PlainDefinition

abbrev pub numbered : ℕ → List PlainDefinition → List NumberedDefinition
numbered k [] = []
numbered k (b ∷ bs) = record { start = k; definition = b } ∷ numbered (k + length (block_texts b)) bs

-- the unfoldings of all of them, each from those before it
unfoldable pub unfold_all : List BinaryWord → List (Known Callee) → Unfoldings → List NumberedDefinition → Unfoldings
unfold_all words calls R [] = R
unfold_all words calls R (b ∷ bs) = unfold_all words calls (R ++ unfold_block words calls R b.start b.definition ∷ []) bs

-- the group that a definition is
abbrev pub group_in : Tables → ℕ → PlainDefinition → List (List Body)
group_in K k (DRelation name params lines) = []
group_in K k (DGroup members) = part_bodies K k members ∷ []

-- the groups among them
abbrev pub numbered_groups : Tables → List NumberedDefinition → List (List Body)
numbered_groups K [] = []
numbered_groups K (b ∷ bs) = group_in K b.start b.definition ++ numbered_groups K bs

-- a parameter with its argument, where both are there
abbrev pub bound : Option Param → Atom → Setting
bound None a = []
bound (Some p) a = (p.name.name, a) ∷ []
