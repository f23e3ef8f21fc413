use Rattle.std.proofs.Common.{◌≡◌, refl, subst, IfOk}
use Rattle.ccsl_report.proofs.Members.{member_line}
use Rattle.ccsl_report.proofs.explained.explain_member.Goals as goal

pub returns : goal.returns
returns c =
    let is_line =
    member_line c.args.system.now c.args.item c.args.set.now c.in_ok-parts.parts.items _ c.deref.result.now _
    (rw c.in_ok-parts.ensures.items c.item_parts.ensures) c.in_ok-push.ensures.items refl
    (rw c.deref.ensures.value c.in_ok-push_names.ensures) in
    subst (λ text. IfOk c.line.result (λ made. made.items ≡ text)) is_line c.line.ensures
