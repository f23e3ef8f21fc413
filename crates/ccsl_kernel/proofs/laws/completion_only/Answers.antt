-- Each step is the full step of its declared part.
use Rattle.std.proofs.Common.{sym, ap, ◌∙◌}
use Rattle.ccsl_kernel.specs.Runs.{completed}
use Rattle.ccsl_kernel.proofs.Completion.{completion_only}
use Rattle.ccsl_kernel.proofs.AcceptedParts.{accepted_guarded, accepted_scoped}
use Rattle.ccsl_kernel.proofs.laws.completion_only.Goals as goal

pub returns : goal.returns
returns c = λ K ok R T h. sym (completion_only K (accepted_guarded K ok) (accepted_scoped K ok) T h.named h.obeys) ∙ ap (completed K) h.declared
