-- What stands in the lists, and what the rest adds, is the whole.
use Rattle.std.proofs.Common.{◌≡◌, ◌++◌, drop, map, flat_map, length}
use Rattle.ccsl_ast.specs.Plain.{plain_definition}
use Rattle.ccsl_rules.specs.Texts.{block_texts}
use Rattle.ccsl_expand.specs.Numbered.{word_in, numbered}
use Rattle.ccsl_expand.specs.Seen.{seen_block}
use Rattle.ccsl_expand.proofs.texts.read_definitions.Given as goal

abbrev pub invariant-loop-definition : goal.invariant-loop-definition
invariant-loop-definition l =
    record {
      words : l.words.items ++ map word_in (flat_map block_texts (map plain_definition (drop l.definition-index l.definitions))) ≡ l.fn.words.items
          ++ map word_in (flat_map block_texts (map plain_definition l.definitions));
      numbered : map seen_block l.blocks.items ++ numbered (length l.words.items) (map plain_definition (drop l.definition-index l.definitions)) ≡ map
          seen_block l.fn.blocks.items ++ numbered (length l.fn.words.items) (map plain_definition l.definitions);
    }
