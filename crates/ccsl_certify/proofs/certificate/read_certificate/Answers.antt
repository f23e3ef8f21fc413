use Rattle.std.proofs.lemmas.Result.{err_from_is_err_and}
use Rattle.ccsl_certify.proofs.Unread.{bytes-unread, lines-unread}
use Rattle.ccsl_certify.proofs.certificate.read_certificate.Goals as goal

pub returns-in_err-text-clause-uncertified : goal.returns-in_err-text-clause-uncertified
returns-in_err-text-clause-uncertified g c =
    let p = err_from_is_err_and c.from_residual.result c.from_residual.ensures.1 in
    rw (p.1, p.2)
    (λ start bound rows trace. bytes-unread g.W.World.told c.args.system.now c.args.limits.now start _ _ bound rows trace _ c.in_err-text.ensures.err)

pub returns-in_err-read-clause-uncertified : goal.returns-in_err-read-clause-uncertified
returns-in_err-read-clause-uncertified g c =
    let r = c.from_residual-in_err-read in
    let p = err_from_is_err_and r.result r.ensures.1 in
    rw (p.1, p.2)
    (λ start bound rows trace.
    lines-unread g.W.World.told c.args.system.now c.args.limits.now start _ _ bound rows trace c.names.result.now c.deref.result.now
    c.in_ok-text.text.items _ c.names.ensures.names c.deref.ensures.value c.in_ok-text.ensures.ok c.in_err-read.ensures)
