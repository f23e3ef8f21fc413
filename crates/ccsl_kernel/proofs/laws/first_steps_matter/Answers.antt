-- The rows determine it, and so do the deaths of clocks.
use Rattle.ccsl_kernel.specs.Meaning.{dead_below}
use Rattle.ccsl_kernel.proofs.TableHolds.{first_steps_matter}
use Rattle.ccsl_kernel.proofs.Definitions.{dead_below-same}
use Rattle.ccsl_kernel.proofs.AcceptedParts.{accepted_guarded}
use Rattle.ccsl_kernel.proofs.laws.first_steps_matter.Goals as goal

pub returns : goal.returns
returns c = λ K ok T T' x e ρ b n ok_e l u u' same.
    first_steps_matter K T T' (dead_below K T x) (dead_below K T' x) (accepted_guarded K ok).bodies e ρ b n ok_e l u u' same
    (λ i y h. dead_below-same K (accepted_guarded K ok) T T' n u u' same x i y h)
