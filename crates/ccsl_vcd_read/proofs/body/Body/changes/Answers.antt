use Rattle.ccsl_vcd_read.proofs.ShortChanges.{made-to-none, made-to-more}
use Rattle.ccsl_vcd_read.proofs.body.Body.changes.Goals as goal
use Rattle.ccsl_base.proofs.Cases.{rest-is}

pub loop-rest-init : goal.loop-rest-init
loop-rest-init c = made-to-none c.args.self.now c.args.bytes.now

pub loop-rest-preserved : goal.loop-rest-preserved
loop-rest-preserved c =
    made-to-more c.args.self.now c.loop-rest.self c.one_change-taken.new.self c.args.bytes.now c.loop-rest.rest.now _ c.one_change-taken.result
    c.loop-rest.invariant c.one_change-taken.ensures (rest-is c.one_change-taken.result c.loop-rest.rest.now)
