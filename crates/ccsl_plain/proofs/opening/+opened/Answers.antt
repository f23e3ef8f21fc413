-- A call, at a level above 0.
use Rattle.std.proofs.Common.{rules, ◌≡◌, suc, ◌-◌, ◌≤◌, ◌<◌, Some, IfOk, map, sym, ap, ap₂, ◌∙◌, subst, arith}
use Rattle.ccsl_base.specs.declared.limits.TheConstants.{MAX_LEVELS}
use Rattle.ccsl_kernel.specs.Syntax.{body_of}
use Rattle.ccsl_kernel.specs.Plain.{plain_expr, plain_body}
use Rattle.ccsl_kernel.specs.Actuals.{value_of}
use Rattle.ccsl_plain.specs.Course.{open_with, open_bodies}
use Rattle.ccsl_plain.specs.Held.{held}
use Rattle.ccsl_kernel.specs.Fit.{ActualsFit}
use Rattle.ccsl_kernel.specs.Deep.{deep}
use Rattle.ccsl_kernel.proofs.AcceptedParts.{body_is, body_ready}
use Rattle.ccsl_plain.proofs.OpenCalls.{opened_call}
use Rattle.ccsl_plain.proofs.opening.+opened.Goals as goal
use Rattle.ccsl_plain.proofs.opening.+opened.Goals.{In-Some}

-- the body that is called
called : (t : _) (c : In-Some t) → body_of c.args.system.now.groups c.in-Call.group c.in-Call.member ≡ Some (plain_body c.in-Some.body.now)
called t c = sym (rw c.in-Some.is at c.body.ensures.body)

pub opened-requires : goal.opened-requires
opened-requires t c =
    let s = (goal.at.opened-requires t c).In-Some in
    let ready = body_ready c.args.system.now c.in-Call.group (plain_body c.in-Some.body.now)
    (body_is c.args.system.now c.in-Call.group c.in-Call.member (plain_body c.in-Some.body.now) c.body.ensures.accepted (called t s)) in
    let shallow : deep (plain_expr c.in-Some.body.now.root) ≤ suc MAX_LEVELS = ready.1 in (
      search rules,
      (
        shallow,
        (
          ready.0,
          subst (λ w. ActualsFit w c.deref.result.now) c.words.ensures
              (subst (ActualsFit c.words.result.now) (sym c.deref.ensures.value) c.in_ok-actuals-in-Some.ensures.fit),
        ),
      ),
    )

pub returns-in_ok-actuals-in-Some-clause-course : goal.returns-in_ok-actuals-in-Some-clause-course
returns-in_ok-actuals-in-Some-clause-course t c =
    let s = (goal.at.returns-in_ok-actuals-in-Some-clause-course t c).In-Some in
    let K = c.args.system.now in
    let above : 0 < c.args.level = omega arith in
    rw c.in-Call.is
    (let down =
    opened_call K c.args.level c.in-Call.group c.in-Call.member c.in-Call.args c.args.actuals.now (plain_body c.in-Some.body.now) above (called t s)
    ∙ ap (open_with K (open_bodies K (c.args.level - 1)) (plain_expr c.in-Some.body.now.root))
    (sym (c.deref.ensures.value ∙ c.in_ok-actuals-in-Some.ensures.values
    ∙ ap₂ (λ w vs. map (value_of w c.args.actuals.now) vs) c.words.ensures c.members.ensures)) in
    subst (λ t. IfOk c.opened.result (λ c'. held K.words c' ≡ t)) (sym down) c.opened.ensures.course)

pub returns-then-holds-clause-course : goal.returns-then-holds-clause-course
returns-then-holds-clause-course t c = search rules

pub returns-else-holds-clause-course : goal.returns-else-holds-clause-course
returns-else-holds-clause-course t c = search rules

pub returns-in_ok-opened-in-Delay-clause-course : goal.returns-in_ok-opened-in-Delay-clause-course
returns-in_ok-opened-in-Delay-clause-course t c = search rules

pub returns-in_ok-opened-in-Await-clause-course : goal.returns-in_ok-opened-in-Await-clause-course
returns-in_ok-opened-in-Await-clause-course t c = search rules

pub returns-in_ok-opened-in-Filter-clause-course : goal.returns-in_ok-opened-in-Filter-clause-course
returns-in_ok-opened-in-Filter-clause-course t c = search rules

pub returns-in_ok-right-in-Delayed-clause-course : goal.returns-in_ok-right-in-Delayed-clause-course
returns-in_ok-right-in-Delayed-clause-course t c = search rules

pub returns-in_ok-right-in-Some-operator_row-clause-course : goal.returns-in_ok-right-in-Some-operator_row-clause-course
returns-in_ok-right-in-Some-operator_row-clause-course t c = search rules

pub returns-in_ok-values-in-None-operator_row-clause-course : goal.returns-in_ok-values-in-None-operator_row-clause-course
returns-in_ok-values-in-None-operator_row-clause-course t c = search rules

pub opened-requires-then-holds : goal.opened-requires-then-holds
opened-requires-then-holds t c =
    let d = rw c.in-If.is at c.requires.shallow in
    let f = rw c.in-If.is at c.requires.offsets in
    (search rules, rw c.deref-then-holds.ensures (omega (arith, d), (f.1, c.requires.actuals)))

pub opened-requires-else-holds : goal.opened-requires-else-holds
opened-requires-else-holds t c =
    let d = rw c.in-If.is at c.requires.shallow in
    let f = rw c.in-If.is at c.requires.offsets in
    (search rules, rw c.deref-else-holds.ensures (omega (arith, d), (f.2, c.requires.actuals)))

pub opened-requires-in-Binary : goal.opened-requires-in-Binary
opened-requires-in-Binary t c =
    let d = rw c.in-Binary.is at c.requires.shallow in
    let f = rw c.in-Binary.is at c.requires.offsets in
    (search rules, rw c.deref-in-Binary.ensures (omega (arith, d), (f.0, c.requires.actuals)))

pub opened-requires-in-Delay : goal.opened-requires-in-Delay
opened-requires-in-Delay t c =
    let d = rw c.in-Delay.is at c.requires.shallow in
    let f = rw c.in-Delay.is at c.requires.offsets in
    (search rules, rw c.deref-in-Delay.ensures (omega (arith, d), (f, c.requires.actuals)))

pub opened-requires-in-Await : goal.opened-requires-in-Await
opened-requires-in-Await t c =
    let d = rw c.in-Await.is at c.requires.shallow in
    let f = rw c.in-Await.is at c.requires.offsets in
    (search rules, rw c.deref-in-Await.ensures (omega (arith, d), (f, c.requires.actuals)))

pub opened-requires-in-Filter : goal.opened-requires-in-Filter
opened-requires-in-Filter t c =
    let d = rw c.in-Filter.is at c.requires.shallow in
    let f = rw c.in-Filter.is at c.requires.offsets in
    (search rules, rw c.deref-in-Filter.ensures (omega (arith, d), (f.0, c.requires.actuals)))

pub opened-requires-in-Delayed : goal.opened-requires-in-Delayed
opened-requires-in-Delayed t c =
    let d = rw c.in-Delayed.is at c.requires.shallow in
    let f = rw c.in-Delayed.is at c.requires.offsets in
    (search rules, rw c.deref-in-Delayed.ensures (omega (arith, d), (f.0, c.requires.actuals)))

pub opened-requires-in-Delayed-2 : goal.opened-requires-in-Delayed-2
opened-requires-in-Delayed-2 t c =
    let d = rw c.in-Delayed.is at c.requires.shallow in
    let f = rw c.in-Delayed.is at c.requires.offsets in
    (search rules, rw c.deref-in-Delayed-2.ensures (omega (arith, d), (f.1, c.requires.actuals)))

pub opened-requires-in-Some-operator_row : goal.opened-requires-in-Some-operator_row
opened-requires-in-Some-operator_row t c =
    let d = rw c.in-Binary.is at c.requires.shallow in
    let f = rw c.in-Binary.is at c.requires.offsets in
    (search rules, rw c.deref-in-Some-operator_row.ensures (omega (arith, d), (f.1, c.requires.actuals)))

pub all_actuals-requires-clause-values : goal.all_actuals-requires-clause-values
all_actuals-requires-clause-values t c = search rules
