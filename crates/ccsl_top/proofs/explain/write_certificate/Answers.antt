use Rattle.std.proofs.lemmas.Result.{err_from_is_err_and, on_ok_weaker, on_err_weaker}
use Rattle.ccsl_top.proofs.OneFile.{unwritten-breaks, unclosed-breaks, closed-whole}
use Rattle.ccsl_top.proofs.explain.write_certificate.Goals as goal

pub returns-in_err-write_all-clause-breaks : goal.returns-in_err-write_all-clause-breaks
returns-in_err-write_all-clause-breaks g c =
    let p = err_from_is_err_and c.from_residual-in_err-write_all.result c.from_residual-in_err-write_all.ensures.1 in
    rw p.1 (unwritten-breaks c.in_ok-open_out.ensures.ok c.in_err-write_all.ensures.err)

pub returns-clause-whole : goal.returns-clause-whole
returns-clause-whole g c =
    on_ok_weaker c.close_out.result (λ closes. closed-whole c.in_ok-open_out.ensures.ok c.in_ok-write_all.ensures.ok closes) c.close_out.ensures.ok

pub returns-clause-breaks : goal.returns-clause-breaks
returns-clause-breaks g c =
    on_err_weaker c.close_out.result (λ fails. unclosed-breaks c.in_ok-open_out.ensures.ok c.in_ok-write_all.ensures.ok fails) c.close_out.ensures.err
