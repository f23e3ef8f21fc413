use Rattle.std.proofs.Common.{◌≡◌, ◌+◌, ◌≤◌, length, length-take, arith, rules}
use Rattle.std.proofs.lemmas.Grind.{common_steps}
use Rattle.std.proofs.lemmas.Result.{err_from_is_err_and}
use Rattle.ccsl_edge.proofs.Reading.{IsReading-more, IsReading-past, IsReading-part}
use Rattle.ccsl_edge.proofs.whole.read_all.Goals as goal

pub returns-then-count-room-clause-err : goal.returns-then-count-room-clause-err
returns-then-count-room-clause-err g c =
    let past : length c.loop-all.all.items + c.in_ok-count.count ≡ c.args.limit + 1 =
    omega (arith, c.in_ok-count.ensures.ok.within, c.read.auto.buf, length-take (c.min-in-loop-all.result + 1) c.loop-all.buffer) in
    IsReading-past _ _ _ _ _ _ _ _ _ c.loop-all.invariant.reading c.in_ok-count.ensures.ok past

pub returns-in_err-extend_from_slice-clause-err : goal.returns-in_err-extend_from_slice-clause-err
returns-in_err-extend_from_slice-clause-err g c =
    let r = c.from_residual-in_err-extend_from_slice in
    let p = err_from_is_err_and r.result r.ensures.1 in
    let within : length c.loop-all.all.items + c.in_ok-count.count ≤ c.args.limit = omega arith in
    rw (p.1, p.2)
    (IsReading-part _ _ _ _ _ _
    (IsReading-more _ _ _ _ _ _ _ _ _ c.loop-all.invariant.reading c.in_ok-count.ensures.ok within))

pub returns-then-count-eq0-clause-ok : goal.returns-then-count-eq0-clause-ok
returns-then-count-eq0-clause-ok c = search rules

pub loop-all-preserved : goal.loop-all-preserved
loop-all-preserved c = grind (arith, common_steps)
