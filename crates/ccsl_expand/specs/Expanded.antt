-- A system made from numbered definitions and items.
use Rattle.std.specs.Prelude.{ℕ, ◌+◌, List, ◌++◌, [], length, map, flat_map, filter_map}
use Rattle.ccsl_ast.specs.Trees.{SLine, PlainFile}
use Rattle.ccsl_words.specs.Word.{BinaryWord}
use Rattle.ccsl_kernel.specs.Syntax.{System}
use Rattle.ccsl_rules.specs.Spaces.{Known, Callee}
use Rattle.ccsl_rules.specs.Texts.{sheet_texts}
use Rattle.ccsl_rules.specs.Unfolded.{Item, unfold_body, own_clocks}
use Rattle.ccsl_rules.specs.Resolved.{Tables}
use Rattle.ccsl_rules.specs.Expansion.{declared_names, written_item, hidden_item, item_definition, constraint_of, names_of}
use Rattle.ccsl_expand.specs.Numbered.{NumberedDefinition, numbered, unfold_all, numbered_groups}

-- the definitions of a library and of a file, with the numbers of their first texts
abbrev pub numbered_files : PlainFile → PlainFile → List NumberedDefinition
numbered_files library file = numbered 0 library.definitions ++ numbered (length (sheet_texts library)) file.definitions

abbrev pub expanded : List BinaryWord → List (Known Callee) → List NumberedDefinition → List (List ℕ) → List Item → System
expanded words calls blocks declared items =
    let names = names_of declared items in
    let K : Tables = record { names = names; words = words; calls = calls } in
    record {
      names = names;
      declared = length declared;
      written = length declared + length (filter_map written_item items);
      words = words;
      groups = numbered_groups K blocks;
      definitions = map (item_definition K) (filter_map written_item items ++ filter_map hidden_item items);
      constraints = filter_map (constraint_of names) items;
    }

-- the same, from lines
abbrev pub expanded_texts : List (Known Callee) → List BinaryWord → List NumberedDefinition → ℕ → List SLine → System
expanded_texts calls words blocks start lines =
    expanded words calls blocks (flat_map declared_names lines)
    (unfold_body words calls (unfold_all words calls [] blocks) [] (own_clocks [] lines) start 0 lines)
