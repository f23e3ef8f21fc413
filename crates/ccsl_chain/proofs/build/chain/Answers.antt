-- Chains are accepted, and have six cells for each call.
use Rattle.std.proofs.Common.{sym, ap, ◌∙◌, subst}
use Rattle.ccsl_kernel.specs.Cells.{cells}
use Rattle.ccsl_kernel.specs.Accepted.{IsAccepted}
use Rattle.ccsl_chain.proofs.Accepted.{accepted, cells-chain}
use Rattle.ccsl_chain.proofs.build.chain.Goals as goal

pub assemble-requires-clause-accepted : goal.assemble-requires-clause-accepted
assemble-requires-clause-accepted c = subst IsAccepted (sym c.in_ok-parts.ensures) (accepted c.args.clocks c.requires.most)

pub assemble-requires-clause-cells : goal.assemble-requires-clause-cells
assemble-requires-clause-cells c = sym (ap cells c.in_ok-parts.ensures ∙ cells-chain c.args.clocks)
