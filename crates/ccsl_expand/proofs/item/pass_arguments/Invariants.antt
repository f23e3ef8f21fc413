use Rattle.std.proofs.Common.{◌≡◌, ◌+◌, drop, length, flat_map}
use Rattle.ccsl_rules.specs.Texts.{argument_texts}
use Rattle.ccsl_expand.proofs.item.pass_arguments.Given as goal

abbrev pub invariant-loop-argument : goal.invariant-loop-argument
invariant-loop-argument l = l.next + length (flat_map argument_texts (drop l.argument-index l.args)) ≡ l.fn.next + length (flat_map argument_texts l.args)
