-- What stands in the list, and what the rest adds, is the whole.
use Rattle.std.proofs.Common.{◌≡◌, ◌++◌, drop, map, flat_map}
use Rattle.ccsl_ast.specs.Plain.{plain_line}
use Rattle.ccsl_rules.specs.Texts.{line_texts}
use Rattle.ccsl_expand.specs.Numbered.{word_in}
use Rattle.ccsl_expand.proofs.texts.read_body.Given as goal

abbrev pub invariant-loop-line : goal.invariant-loop-line
invariant-loop-line l = l.words.items ++ map word_in (flat_map line_texts (map plain_line (drop l.line-index l.lines))) ≡ l.fn.words.items
    ++ map word_in (flat_map line_texts (map plain_line l.lines))
