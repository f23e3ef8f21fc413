use Rattle.ccsl_vcd_write.proofs.Traces.{has-names}
use Rattle.ccsl_vcd_write.proofs.Sizes.{texts-fit}
use Rattle.ccsl_vcd_write.proofs.laws.texts_fit.Goals as goal

pub returns : goal.returns
returns c =
    texts-fit c.args.system.now (has-names c.args.system.now c.names.result.now c.names.ensures.accepted c.names.ensures.names c.are_distinct.ensures)
