-- The definition can be opened, and what is followed is its meaning.
use Rattle.std.proofs.Common.{ap, ap₂, ◌∙◌}
use Rattle.ccsl_formula.specs.Formula.{FIff}
use Rattle.ccsl_formula.specs.Plain.{plain}
use Rattle.ccsl_formula.specs.declared.scope.Scope.{Scope}
use Rattle.ccsl_plain.specs.Held.{held}
use Rattle.ccsl_kernel.specs.Plain.{plain_expr}
use Rattle.ccsl_kernel.proofs.ItemCases.{ready_at}
use Rattle.ccsl_kernel.proofs.AcceptedParts.{accepted_guarded}
use Rattle.ccsl_plain.proofs.DeathTable.{formula_step}
use Rattle.ccsl_plain.proofs.plain.definition_formula.Goals as goal

pub followed-requires-clause-shallow : goal.followed-requires-clause-shallow
followed-requires-clause-shallow c =
    (ready_at c.args.system.now c.args.i (plain_expr c.definition.result.now) c.definition.ensures.accepted c.definition.ensures.definition).1

pub followed-requires-clause-offsets : goal.followed-requires-clause-offsets
followed-requires-clause-offsets c =
    (ready_at c.args.system.now c.args.i (plain_expr c.definition.result.now) c.definition.ensures.accepted c.definition.ensures.definition).0

pub returns : goal.returns
returns c =
    ap₂ (λ x f. FIff (plain x) (plain f)) c.in_ok-clock.ensures.ok c.in_ok-new.ensures.ok
    ∙ formula_step c.args.system.now c.args.list.now (accepted_guarded c.args.system.now c.definition.ensures.accepted) c.args.i
    (plain_expr c.definition.result.now) c.definition.ensures.definition
    c.scope-declared.result.declared c.deref.result.now (plain c.in_ok-asked.asked) (held c.args.system.now.words c.in_ok-walk.walk.course)
    (ap (λ (s : Scope). s.declared) c.scope-declared.ensures.scope) (c.deref.ensures.value ∙ c.in_ok-columns.ensures) c.in_ok-walk.ensures.course
    (rw c.words.ensures at c.in_ok-asked.ensures)
