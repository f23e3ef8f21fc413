use Rattle.std.proofs.Common.{◌+◌, ◌-◌, ◌≡◌, ◌≤◌, ℕ, List, length, take, drop, arith, length-drop, length-take-le}
use Rattle.std.proofs.Math.Seq.{take-add}
use Rattle.std.proofs.lemmas.List.{take_all, take-append-drop}
use Rattle.ccsl_base.specs.declared.rows.Row.{Row}
use Rattle.ccsl_relate.proofs.Blocks.{takes-both, may-take-on}
use Rattle.ccsl_relate.proofs.monitor.Monitor.check_parts.Goals as goal

-- what was taken and some rows behind it are no more than all
inside : (rows : List Row) (from n : ℕ) → from + n ≤ length rows → length (take from rows) + length (take n (drop from rows)) ≤ length rows
inside rows from n l =
    let behind = length-drop from rows in
    omega (arith, l, behind, length-take-le from rows (omega (arith, l)), length-take-le n (drop from rows) (omega (arith, l, behind)))

pub check_part-requires-clause-few : goal.check_part-requires-clause-few
check_part-requires-clause-few c =
    may-take-on _ _ c.requires.few c.parts.invariant.takes
    (inside c.args.rows.now c.parts.from (c.parts.from + c.min-count.result - c.parts.from) (omega arith))

pub rest-requires-clause-few : goal.rest-requires-clause-few
rest-requires-clause-few c =
    may-take-on _ _ c.requires.few c.parts.invariant.takes (inside c.args.rows.now c.parts.from (length c.args.rows.now - c.parts.from) (omega arith))

pub returns-then-is_some : goal.returns-then-is_some
returns-then-is_some c =
    let rows = c.args.rows.now in
    let from = c.parts.from in
    let behind = length-drop from rows in
    rw take-append-drop at (takes-both c.parts.invariant.takes (rw (take_all (length rows - from) (drop from rows) (omega (arith, behind))) at c.rest.ensures))

pub parts-preserved : goal.parts-preserved
parts-preserved c =
    let n : c.parts.from + c.min-count.result - c.parts.from ≡ c.min-count.result = omega arith in
    record {
      within = omega arith;
      states = c.check_part.ensures.states;
      takes = rw (take-add c.parts.from c.min-count.result c.args.rows.now) (takes-both c.parts.invariant.takes (rw n at c.check_part.ensures.takes));
    }

pub returns : goal.returns
returns c = rw (take_all c.parts.from c.args.rows.now (omega arith)) at c.parts.invariant.takes
