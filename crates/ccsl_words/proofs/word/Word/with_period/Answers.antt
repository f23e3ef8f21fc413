use Rattle.std.proofs.Common.{◌-◌, length, ap, arith, vec_len}
use Rattle.std.proofs.lemmas.Grind.{common_steps}
use Rattle.std.proofs.lemmas.Result.{err_from_is_err_and}
use Rattle.ccsl_words.proofs.Stripped.{not_closed, closed_empty, closed_early, period_long, none_long, some_long}
use Rattle.ccsl_words.proofs.word.Word.with_period.Goals as goal

pub returns-in_err-period-clause-fault : goal.returns-in_err-period-clause-fault
returns-in_err-period-clause-fault c =
    let p = err_from_is_err_and c.from_residual.result c.from_residual.ensures.1 in
    rw (p.1, p.2)
    (λ ne. rw (c.in_err-period.ensures.cause ne)
    (period_long c.args.prefix.items c.args.inside.now (4096 - c.len.result) (omega (arith, c.requires)) (omega arith) (c.in_err-period.ensures.long ne)))

pub returns-in_default-clause-fault : goal.returns-in_default-clause-fault
returns-in_default-clause-fault c =
    λ _. not_closed c.args.prefix.items c.args.inside.now c.in_ok-period.period.items c.len-4.result c.in_ok-period.ensures.letters (omega arith)
    (omega (arith, c.in_ok-period.ensures.few, c.requires)) c.in_default.ensures.cases _ (omega arith)

pub returns-then-is_empty-clause-fault : goal.returns-then-is_empty-clause-fault
returns-then-is_empty-clause-fault c =
    λ _. closed_empty c.args.prefix.items c.args.inside.now c.in_ok-period.period.items c.len-4.result c.in_ok-period.ensures.letters (omega arith)
    (omega (arith, c.in_ok-period.ensures.few, c.requires)) c.in-Some.ensures.cases.0
    (omega (arith, none_long (vec_len c.in_ok-period.period) c.is_empty.result c.is_empty.ensures c.if-is_empty.true))

pub returns-then-not-is_empty-clause-fault : goal.returns-then-not-is_empty-clause-fault
returns-then-not-is_empty-clause-fault c =
    λ _. closed_early c.args.prefix.items c.args.inside.now c.in_ok-period.period.items c.len-4.result c.in_ok-period.ensures.letters (omega arith)
    (omega (arith, c.in_ok-period.ensures.few, c.requires)) c.in-Some.ensures.cases.0
    (omega (arith, some_long (vec_len c.in_ok-period.period) c.is_empty.result c.is_empty.ensures c.if-is_empty.false))
    (omega (arith, some_long (length c.in-Some.after.now) c.is_empty-2.result c.is_empty-2.ensures c.if-not-is_empty.true, ap length c.in-Some.ensures.cases.1))
    _ (omega arith)

pub returns-clause-word : goal.returns-clause-word
returns-clause-word c = grind (arith, common_steps)
