-- One more step: an operand's is a smaller course, and a then whose left operand has died is its right one.
use Rattle.std.proofs.Common.{◌≡◌, rules, length, true, sym, ap, ap₂, ◌∙◌}
use Rattle.std.proofs.lemmas.List.{length-map}
use Rattle.ccsl_kernel.specs.Plain.{plain_expr, plain_group}
use Rattle.ccsl_plain.specs.declared.course.Course.{the_lemmas}
use Rattle.ccsl_plain.specs.Course.{now_of, next, then_or_right, open_with, open_bodies}
use Rattle.ccsl_plain.specs.Held.{held, gone_in}
use Rattle.ccsl_plain.proofs.advance.+advance.Goals as goal

pub advanced-operand_advanced-requires : goal.advanced-operand_advanced-requires
advanced-operand_advanced-requires t c = search (rules, the_lemmas)

pub advanced-operand_advanced-requires-in-Binary : goal.advanced-operand_advanced-requires-in-Binary
advanced-operand_advanced-requires-in-Binary t c = search (rules, the_lemmas)

pub advanced-operand_advanced-requires-in-Binary-2 : goal.advanced-operand_advanced-requires-in-Binary-2
advanced-operand_advanced-requires-in-Binary-2 t c = search (rules, the_lemmas)

pub advanced-advanced-requires : goal.advanced-advanced-requires
advanced-advanced-requires t c = search (rules, the_lemmas)

pub operand_advanced-advanced-requires : goal.operand_advanced-advanced-requires
operand_advanced-advanced-requires t c = search (rules, the_lemmas)

pub advanced-returns-then-is_dead-clause-next : goal.advanced-returns-then-is_dead-clause-next
advanced-returns-then-is_dead-clause-next t c = λ gone.
    let K = c.args.system.now in
    let later = gone_in c.args.deaths.now c.args.at in
    let e = plain_expr c.in-Then.d.now in
    let left = next K c.args.step.now gone later (held K.words c.in-Then.a.value) in
    let moved : held K.words c.in_ok-a-in-Then.a ≡ left = search rules in
    let dead : (now_of later left).dead ≡ true =
    ap (λ a. (now_of later a).dead) (sym moved) ∙ sym (rw (c.words-words.ensures, c.in_ok-a-in-Then.a-is) at c.is_dead.ensures) ∙ c.if-is_dead.true in
    let same : length c.groups.result.now ≡ length K.groups = sym (length-map c.groups.result.now plain_group) ∙ ap length c.groups.ensures.groups in
    rw c.in-Then.is
    (c.in_ok-course-in-Then.ensures.course
    ∙ ap₂ (λ level ρ. open_with K (open_bodies K level) e ρ) same c.deref-then-is_dead.ensures.value
    ∙ sym (ap (λ b. then_or_right K b left e c.in-Then.values.items) dead))

pub advanced-returns-clause-tick : goal.advanced-returns-clause-tick
advanced-returns-clause-tick t c = search rules

pub advanced-returns-clause-next : goal.advanced-returns-clause-next
advanced-returns-clause-next t c = search rules

pub advanced-returns-in-Unary-clause-tick : goal.advanced-returns-in-Unary-clause-tick
advanced-returns-in-Unary-clause-tick t c = search rules

pub advanced-returns-in-Unary-clause-next : goal.advanced-returns-in-Unary-clause-next
advanced-returns-in-Unary-clause-next t c = search rules

pub advanced-returns-in-Binary-clause-tick : goal.advanced-returns-in-Binary-clause-tick
advanced-returns-in-Binary-clause-tick t c = search rules

pub advanced-returns-in-Binary-clause-next : goal.advanced-returns-in-Binary-clause-next
advanced-returns-in-Binary-clause-next t c = search rules

pub operand_advanced-returns-clause-tick : goal.operand_advanced-returns-clause-tick
operand_advanced-returns-clause-tick t c = search rules

pub operand_advanced-returns-clause-next : goal.operand_advanced-returns-clause-next
operand_advanced-returns-clause-next t c = search rules

pub operand_advanced-returns-clause-ticks : goal.operand_advanced-returns-clause-ticks
operand_advanced-returns-clause-ticks t c = search rules
