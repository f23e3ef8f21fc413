-- What stands in the list, and what the rest adds, is the whole.
use Rattle.std.proofs.Common.{◌≡◌, ◌+◌, ◌++◌, drop, length, flat_map}
use Rattle.ccsl_rules.specs.Texts.{argument_texts}
use Rattle.ccsl_rules.specs.Resolved.{resolve_arguments}
use Rattle.ccsl_expand.specs.Seen.{seen_tables}
use Rattle.ccsl_expand.proofs.expression.arguments.Given as goal

abbrev pub invariant-loop-given : goal.invariant-loop-given
invariant-loop-given l =
    record {
      values : l.values.items ++ resolve_arguments (seen_tables l.tables) l.setting l.next (drop l.given-index l.arguments) ≡ resolve_arguments
          (seen_tables l.tables) l.setting l.fn.next l.arguments;
      next : l.next + length (flat_map argument_texts (drop l.given-index l.arguments)) ≡ l.fn.next + length (flat_map argument_texts l.arguments);
    }
