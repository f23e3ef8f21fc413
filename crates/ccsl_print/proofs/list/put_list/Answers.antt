use Rattle.std.proofs.Common.{arith}
use Rattle.ccsl_print.proofs.Turns.{led}
use Rattle.ccsl_print.proofs.list.put_list.Goals as goal

pub returns-in_ok-put-in-len1-up : goal.returns-in_ok-put-in-len1-up
returns-in_ok-put-in-len1-up g c =
    rw (led g.T.Spelled.tokens c.args.page.now c.put.new.page c.args.items.now c.first-item.result (omega arith) c.first-item.is c.in_ok-put-in-len1-up.ensures)
    c.put_further.ensures
