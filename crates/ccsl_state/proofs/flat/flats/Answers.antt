-- One definition more.
use Rattle.std.proofs.Common.{arith}
use Rattle.std.proofs.lemmas.Grind.{common_steps}
use Rattle.ccsl_kernel.specs.Plain.{plain_expr}
use Rattle.ccsl_state.proofs.Operands.{flats_more}
use Rattle.ccsl_state.proofs.flat.flats.Goals as goal

pub loop-i-preserved : goal.loop-i-preserved
loop-i-preserved c = record {
  count = grind (arith, common_steps);
  each = flats_more c.args.system.now c.loop-i.flats.items c.push.new.self.items c.loop-i.i (plain_expr c.definition.result.now) c.flat_of.result
      c.loop-i.invariant.count c.in_ok-push.ensures.items c.loop-i.invariant.each c.definition.ensures.definition c.flat_of.ensures;
}
