use Rattle.std.proofs.Common.{map, arith}
use Rattle.ccsl_ast.specs.Trees.{SLineOf}
use Rattle.ccsl_ast.specs.Plain.{plain_line}
use Rattle.ccsl_spaces.specs.Callees.{seen_call}
use Rattle.ccsl_elaborate.specs.Weighed.{weights_of}
use Rattle.ccsl_elaborate.proofs.Cuts.{body_count-cut}
use Rattle.ccsl_elaborate.proofs.counts.body_weight.Goals as goal

pub loop-line-init : goal.loop-line-init
loop-line-init c = record {
  small = omega arith;
  whole = body_count-cut (weights_of (map seen_call c.args.calls.now) c.args.total) (map seen_call c.args.calls.now) c.args.weighed.now
      (map SLineOf (map plain_line c.args.lines.now));
}
