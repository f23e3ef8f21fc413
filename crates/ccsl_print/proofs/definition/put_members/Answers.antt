use Rattle.std.proofs.Common.{arith}
use Rattle.ccsl_print.proofs.Turns.{led_members}
use Rattle.ccsl_print.proofs.definition.put_members.Goals as goal

pub returns-in_ok-put_member-in-len1-up : goal.returns-in_ok-put_member-in-len1-up
returns-in_ok-put_member-in-len1-up c =
    rw (led_members c.args.page.now c.put_member.new.page c.args.members.now c.first-item.result (omega arith) c.first-item.is
    c.in_ok-put_member-in-len1-up.ensures) c.put_further_members.ensures
