use Rattle.std.proofs.Common.{arith, ap, ◌∙◌}
use Rattle.ccsl_ast.specs.Plain.{plain_member}
use Rattle.ccsl_grammar.specs.Canonical.{member_tokens, further_tokens}
use Rattle.ccsl_print.specs.Pages.{after}
use Rattle.ccsl_print.proofs.Turns.{mapped_turn}
use Rattle.ccsl_print.proofs.definition.put_further_members.Goals as goal

pub loop-member-preserved : goal.loop-member-preserved
loop-member-preserved c =
    mapped_turn further_tokens plain_member _ _ _ c.args.members.now c.loop-member.member-index c.member-item.result (omega arith) c.member-item.is
    c.loop-member.invariant
    (c.in_ok-put_member.ensures ∙ ap (λ z. after z (member_tokens (plain_member c.member-item.result))) c.in_ok-word.ensures)
