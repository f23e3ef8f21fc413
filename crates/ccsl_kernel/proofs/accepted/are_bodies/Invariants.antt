use Rattle.std.proofs.Common.{ℕ, ◌<◌, get_or}
use Rattle.std.specs.Prelude.{All}
use Rattle.ccsl_kernel.specs.declared.group.Group.{Group}
use Rattle.ccsl_kernel.specs.Plain.{plain_body, plain_system}
use Rattle.ccsl_kernel.specs.Accepted.{IsBody}
use Rattle.ccsl_kernel.proofs.accepted.are_bodies.Given as goal

abbrev pub invariant-loop-i : goal.invariant-loop-i
invariant-loop-i l = (k : ℕ) (d : Group) → k < l.i → All (λ body. IsBody (plain_system l.parts) k (plain_body body)) (get_or l.groups k d).members
