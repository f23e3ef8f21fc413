-- What was written so far, and the lines on the rest, are the whole.
use Rattle.std.proofs.Common.{◌≡◌, ◌++◌}
use Rattle.ccsl_top.specs.Explain.{member_lines}
use Rattle.ccsl_top.specs.Explaining.{AreMembers}
use Rattle.ccsl_top.proofs.explain.put_members.Given as goal

abbrev pub invariant-loop-item : goal.invariant-loop-item
invariant-loop-item l =
    AreMembers l.system l.item-iterator.a.rest.now l.item-iterator.b.rest.now
    × (l.report.items ++ member_lines l.system l.item-iterator.a.rest.now l.item-iterator.b.rest.now
    ≡ l.initial.report.items ++ member_lines l.system l.core l.without)
