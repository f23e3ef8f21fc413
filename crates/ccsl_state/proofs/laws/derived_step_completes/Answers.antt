use Rattle.std.proofs.Common.{arith}
use Rattle.std.proofs.lemmas.Grind.{common_steps}
use Rattle.ccsl_kernel.proofs.Completion.{completed-append}
use Rattle.ccsl_state.proofs.StandLaws.{stands_derived}
use Rattle.ccsl_state.proofs.laws.derived_step_completes.Goals as goal

pub returns : goal.returns
returns c = grind (arith, common_steps, completed-append, stands_derived)
