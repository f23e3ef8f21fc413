use Rattle.std.proofs.Common.{refl, sym, ◌∙◌}
use Rattle.std.proofs.lemmas.Result.{err_from_is_err_and}
use Rattle.ccsl_events_top.specs.Stages.{stopped, unclosed, closed}
use Rattle.ccsl_events_top.proofs.Reopening.{reopened, ended-open}
use Rattle.ccsl_events_top.proofs.program.write_file.Goals as goal

pub body-ended-requires-clause-begins : goal.body-ended-requires-clause-begins
body-ended-requires-clause-begins g c =
    let w = c.requires.begins in
    let r = reopened g.W.World.told c.args.name.now w.0 _ _ c.in_ok-open_out.ensures.ok w.1 w.2 w.3 c.args.pass.now w.4 in
    (r.0, w.1, w.2, w.3, r.2)

pub close_out-requires-clause-opened : goal.close_out-requires-clause-opened
close_out-requires-clause-opened g c =
    let w = c.requires.begins in
    let r = reopened g.W.World.told c.args.name.now w.0 _ _ c.in_ok-open_out.ensures.ok w.1 w.2 w.3 c.args.pass.now w.4 in
    ended-open g.W.World.told c.args.name.now w.0 r.0 _ w.1 w.2 w.3 c.body-ended.result r.1 (c.body-ended.ensures r.0 w.1 w.2 w.3 r.2)
    (sym c.is_written.ensures ∙ c.if-is_written.true)

pub returns-in_err-close_out : goal.returns-in_err-close_out
returns-in_err-close_out g c =
    let q = err_from_is_err_and c.from_residual-in_err-close_out.result c.from_residual-in_err-close_out.ensures.1 in
    rw (q.1, q.2) (λ start plan head text b.
    let r = reopened g.W.World.told c.args.name.now start _ _ c.in_ok-open_out.ensures.ok plan head text c.args.pass.now b in
    unclosed r.0 r.1 _ c.body-ended.result (c.body-ended.ensures r.0 plan head text r.2)
    (sym c.is_written.ensures ∙ c.if-is_written.true) c.in_err-close_out.ensures.err refl)

pub returns-in_ok-close_out : goal.returns-in_ok-close_out
returns-in_ok-close_out g c start plan head text b =
    let r = reopened g.W.World.told c.args.name.now start _ _ c.in_ok-open_out.ensures.ok plan head text c.args.pass.now b in
    closed r.0 r.1 _ (c.body-ended.ensures r.0 plan head text r.2) (sym c.is_written.ensures ∙ c.if-is_written.true)
    c.in_ok-close_out.ensures.ok

pub returns-else-is_written : goal.returns-else-is_written
returns-else-is_written g c start plan head text b =
    let r = reopened g.W.World.told c.args.name.now start _ _ c.in_ok-open_out.ensures.ok plan head text c.args.pass.now b in
    stopped r.0 r.1 (c.body-ended.ensures r.0 plan head text r.2) (sym c.is_written.ensures ∙ c.if-is_written.false)
