use Rattle.std.proofs.Common.{◌<◌, length, get_or, arith, rules}
use Rattle.std.proofs.lemmas.Option.{slice_get-get_or}
use Rattle.ccsl_relate.proofs.Earliest.{far-on, far-found, all-taken}
use Rattle.ccsl_relate.proofs.stretch.first_violation.Goals as goal
use Rattle.ccsl_relate.proofs.stretch.first_violation.Goals.{in-None, in-Some}

pub loop-i-preserved : goal.loop-i-preserved
loop-i-preserved c =
    let f = c.loop-i.invariant in
    let x = c.first_row.new.watched in
    let inside : c.loop-i.i < length c.args.kept.now = omega arith in
    let join = c.match-first_row in
    elim join.branch [
      | in-None w ↦ rw (w.end-is, w.first-is) (far-on f inside x (rw w.in-None.is at c.first_row.ensures))
      | in-Some w ↦
          let row = w.in-Some.row in
          let t = rw w.in-Some.is at c.first_row.ensures in
          let rows = c.args.rows.now in
          rw (w.end-is, w.first-is)
          (far-found f inside x row (get_or rows row w.index-rows-row.result) t
          (slice_get-get_or rows row w.index-rows-row.result (omega (arith, t.fails.inside, f.within))))
    ]

pub returns : goal.returns
returns c = all-taken c.loop-i.invariant (omega arith)

pub loop-i-init : goal.loop-i-init
loop-i-init c = search rules
