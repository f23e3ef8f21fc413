-- What stands in the list, and what the rest adds, is the whole.
use Rattle.std.proofs.Common.{◌≡◌, ◌++◌, drop, map, flat_map}
use Rattle.ccsl_ast.specs.Plain.{plain_sline}
use Rattle.ccsl_rules.specs.Texts.{entry_texts}
use Rattle.ccsl_expand.specs.Numbered.{word_in}
use Rattle.ccsl_expand.proofs.texts.read_system.Given as goal

abbrev pub invariant-loop-line : goal.invariant-loop-line
invariant-loop-line l = l.words.items ++ map word_in (flat_map entry_texts (map plain_sline (drop l.line-index l.lines))) ≡ l.fn.words.items
    ++ map word_in (flat_map entry_texts (map plain_sline l.lines))
