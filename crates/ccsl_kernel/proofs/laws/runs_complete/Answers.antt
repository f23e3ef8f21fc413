-- A run obeys the definitions.
use Rattle.std.proofs.Common.{sym}
use Rattle.ccsl_kernel.proofs.Admissible.{run_completed}
use Rattle.ccsl_kernel.proofs.AcceptedParts.{accepted_guarded, accepted_scoped}
use Rattle.ccsl_kernel.proofs.laws.runs_complete.Goals as goal

pub returns : goal.returns
returns c = λ K ok T run named. sym (run_completed K (accepted_guarded K ok) (accepted_scoped K ok) T run named)
