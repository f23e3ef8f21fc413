-- Definitions can be opened, and one more column.
use Rattle.std.proofs.Common.{ap, ◌∙◌}
use Rattle.ccsl_formula.specs.declared.scope.Scope.{Scope}
use Rattle.ccsl_kernel.specs.Plain.{plain_expr}
use Rattle.ccsl_kernel.proofs.ItemCases.{ready_at}
use Rattle.ccsl_kernel.proofs.AcceptedParts.{accepted_guarded}
use Rattle.ccsl_plain.proofs.DeathTable.{column_step}
use Rattle.ccsl_plain.proofs.plain.deaths_before.Goals as goal

pub followed-requires-clause-shallow : goal.followed-requires-clause-shallow
followed-requires-clause-shallow c =
    (ready_at c.args.system.now c.loop-i.i (plain_expr c.definition.result.now) c.definition.ensures.accepted c.definition.ensures.definition).1

pub followed-requires-clause-offsets : goal.followed-requires-clause-offsets
followed-requires-clause-offsets c =
    (ready_at c.args.system.now c.loop-i.i (plain_expr c.definition.result.now) c.definition.ensures.accepted c.definition.ensures.definition).0

pub loop-i-preserved : goal.loop-i-preserved
loop-i-preserved c =
    column_step c.args.system.now c.args.list.now (accepted_guarded c.args.system.now c.definition.ensures.accepted) c.loop-i.i
    (plain_expr c.definition.result.now) c.definition.ensures.definition
    c.scope-declared.result.declared c.deref.result.now c.loop-i.columns.items c.push.new.self.items c.new.result
    (ap (λ (s : Scope). s.declared) c.scope-declared.ensures.scope) c.deref.ensures.value c.loop-i.invariant (c.new.ensures ∙ c.in_ok-walk.ensures.deaths)
    c.in_ok-push.ensures.items
