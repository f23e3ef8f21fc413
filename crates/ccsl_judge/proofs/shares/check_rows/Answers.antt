use denote.Param.Send.{sendable}
use Rattle.ccsl_kernel.specs.Syntax.{item_count}
use Rattle.ccsl_judge.proofs.Sending.{share_send}
use Rattle.ccsl_judge.proofs.Sharing.{each-can-take, each-took}
use Rattle.ccsl_judge.proofs.shares.check_rows.Goals as goal

pub check_all-requires-send-P : goal.check_all-requires-send-P
check_all-requires-send-P g c = λ κs b. search (sendable, share_send) depth 40

pub check_all-requires-clause-ready : goal.check_all-requires-clause-ready
check_all-requires-clause-ready g c = λ κs b.
    let w = c.requires.follow in
    each-can-take w.0 w.1 w.2 c.args.block.now.rows w.4 0 c.args.shares.now (item_count w.0) w.3

pub returns : goal.returns
returns g c = λ K bound rows f few. each-took K bound rows c.args.block.now.rows few 0 c.args.shares.now c.check_all.new.pieces (item_count K) f
    c.check_all.ensures
