-- A relation reads no more of a row than its step, and a definition stays as it is.
use Rattle.std.proofs.Common.{arith}
use Rattle.ccsl_relate.proofs.ByRows.{nothing-takes, relation-takes}
use Rattle.ccsl_relate.proofs.stretch.first_row.Goals as goal

pub returns-in-Nothing : goal.returns-in-Nothing
returns-in-Nothing c = rw c.in-Nothing.is (nothing-takes c.args.rows.now c.args.steps.now c.args.end)

pub returns-in-Relation : goal.returns-in-Relation
returns-in-Relation c = rw c.in-Relation.is
    (relation-takes c.args.rows.now c.args.steps.now c.args.end c.in-Relation.related _ c.first_row_of.result (omega arith) c.first_row_of.ensures)
