-- One definition more.
use Rattle.ccsl_kernel.specs.Plain.{plain_expr}
use Rattle.ccsl_chain.specs.Chain.{all_but_first}
use Rattle.ccsl_chain.proofs.Pieces.{one_more}
use Rattle.ccsl_chain.proofs.items.definitions.Goals as goal

pub loop-i-preserved : goal.loop-i-preserved
loop-i-preserved c =
    one_more plain_expr all_but_first c.loop-i.out.items c.push.new.self.items c.in_ok-all_but_first.field-0 c.loop-i.i
    c.loop-i.invariant c.in_ok-all_but_first.ensures c.in_ok-push.ensures.items
