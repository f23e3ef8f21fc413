use Rattle.std.proofs.Common.{◌≡◌, take, map}
use Rattle.std.specs.List.{flat_map}
use Rattle.ccsl_ast.specs.Plain.{plain_member}
use Rattle.ccsl_grammar.specs.Canonical.{further_tokens}
use Rattle.ccsl_print.specs.Pages.{after}
use Rattle.ccsl_print.proofs.definition.put_further_members.Given as goal

abbrev pub invariant-loop-member : goal.invariant-loop-member
invariant-loop-member l = l.page ≡ after l.fn.page (flat_map further_tokens (map plain_member (take l.member-index l.members)))
