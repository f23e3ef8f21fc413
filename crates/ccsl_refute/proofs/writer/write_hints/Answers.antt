use Rattle.std.proofs.Common.{◌^◌, arith}
use Rattle.ccsl_refute.proofs.Written.{all-below}
use Rattle.ccsl_refute.proofs.writer.write_hints.Goals as goal

pub returns-clause-fit : goal.returns-clause-fit
returns-clause-fit c = all-below (2 ^ 64) c.args.hints.now (λ i. let fits = c.type_inv.hints i in omega arith)
