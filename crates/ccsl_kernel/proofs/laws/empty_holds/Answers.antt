-- No expression asks for a tick where nothing ticks.
use Rattle.ccsl_kernel.proofs.Empty.{empty_holds}
use Rattle.ccsl_kernel.proofs.AcceptedParts.{accepted_guarded}
use Rattle.ccsl_kernel.proofs.laws.empty_holds.Goals as goal

pub returns : goal.returns
returns c = λ K ok T n i u. empty_holds K (accepted_guarded K ok) T n i u
