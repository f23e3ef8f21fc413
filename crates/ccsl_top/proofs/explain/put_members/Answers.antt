use Rattle.std.proofs.Common.{inl, inr}
use Rattle.ccsl_top.proofs.Members.{members-end}
use Rattle.ccsl_top.proofs.explain.put_members.Goals as goal

pub returns : goal.returns
returns c =
    members-end c.args.system.now c.loop-item.report.items _ c.loop-item.item-iterator.a.rest.now c.loop-item.item-iterator.b.rest.now
    (elim c.in-None.ensures.steps [ inl h ↦ inl h.1.0 | inr h ↦ inr h.1.0 ]) c.loop-item.invariant.1
