use Rattle.std.proofs.lemmas.Result.{err_from_is_err_and}
use Rattle.ccsl_top.proofs.simulate.simulate.Goals as goal

pub returns-in_err-done-clause-stop : goal.returns-in_err-done-clause-stop
returns-in_err-done-clause-stop g c =
    let r = c.from_residual in
    let p = err_from_is_err_and r.result r.ensures.1 in
    rw (p.1, p.2) c.in_err-done.ensures.stop

pub returns-in_err-reply_on-clause-stop : goal.returns-in_err-reply_on-clause-stop
returns-in_err-reply_on-clause-stop g c =
    let both = c.in_ok-done.ensures.done in
    let r = c.from_residual-in_err-reply_on in
    let p = err_from_is_err_and r.result r.ensures.1 in
    rw (p.1, p.2) (record { some = both.some; counts = both.counts })

pub returns-clause-answers : goal.returns-clause-answers
returns-clause-answers g c = (c.in_ok-done.done, c.in_ok-reply_on.ensures, c.in_ok-done.ensures.done)
