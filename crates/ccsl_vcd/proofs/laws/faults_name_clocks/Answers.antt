use Rattle.ccsl_vcd.proofs.FaultClocks.{reading-names}
use Rattle.ccsl_vcd.specs.declared.fault.VcdFault.TheVariants.{Unbound, Ambiguous}
use Rattle.ccsl_vcd.proofs.laws.faults_name_clocks.Goals as goal

pub returns-clause-unbound : goal.returns-clause-unbound
returns-clause-unbound c = λ w l file clock e. reading-names w l file (Unbound clock) e

pub returns-clause-ambiguous : goal.returns-clause-ambiguous
returns-clause-ambiguous c = λ w l file clock e. reading-names w l file (Ambiguous clock) e
