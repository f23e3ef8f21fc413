-- What stands in the list, and what the rest adds, is the whole.
use Rattle.std.proofs.Common.{◌≡◌, ◌++◌, drop, map, flat_map}
use Rattle.ccsl_rules.specs.Texts.{argument_texts}
use Rattle.ccsl_expand.specs.Numbered.{word_in}
use Rattle.ccsl_expand.proofs.texts.read_arguments.Given as goal

abbrev pub invariant-loop-argument : goal.invariant-loop-argument
invariant-loop-argument l =
    l.words.items ++ map word_in (flat_map argument_texts (drop l.argument-index l.args)) ≡ l.fn.words.items ++ map word_in (flat_map argument_texts l.args)
