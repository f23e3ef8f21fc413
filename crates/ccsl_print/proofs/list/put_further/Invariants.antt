use Rattle.std.proofs.Common.{◌≡◌, take}
use Rattle.std.specs.List.{flat_map}
use Rattle.ccsl_grammar.specs.Grammar.{further_spelled}
use Rattle.ccsl_print.specs.Pages.{after}
use Rattle.ccsl_print.proofs.list.put_further.Given as goal

abbrev pub invariant-loop-item : goal.invariant-loop-item
invariant-loop-item g l = l.page ≡ after l.fn.page (flat_map (further_spelled g.T.Spelled.tokens) (take l.item-index l.items))
