use Rattle.std.proofs.Common.{◌≡◌, take}
use Rattle.std.specs.List.{flat_map}
use Rattle.ccsl_grammar.specs.Grammar.{signed_spelled}
use Rattle.ccsl_print.specs.Pages.{after}
use Rattle.ccsl_print.proofs.term.put_rest.Given as goal

abbrev pub invariant-loop-signed : goal.invariant-loop-signed
invariant-loop-signed l = l.page ≡ after l.fn.page (flat_map signed_spelled (take l.signed-index l.rest))
