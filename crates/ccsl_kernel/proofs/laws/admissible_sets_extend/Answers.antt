-- A run with one more step is a completion.
use Rattle.ccsl_kernel.proofs.Admissible.{admissible_extends, extended_admissible}
use Rattle.ccsl_kernel.proofs.AcceptedParts.{accepted_guarded, accepted_scoped}
use Rattle.ccsl_kernel.proofs.laws.admissible_sets_extend.Goals as goal

pub returns : goal.returns
returns c = λ K ok T run named s. (
  admissible_extends K (accepted_guarded K ok) (accepted_scoped K ok) T run named s,
  λ h. extended_admissible K (accepted_guarded K ok) (accepted_scoped K ok) T run named s h.0 h.1,
)
