-- A definition names lower clocks only, and a formula reads what the expression names.
use Rattle.std.proofs.Common.{[], arith}
use Rattle.ccsl_kernel.specs.Meaning.{dead_below, formula_at}
use Rattle.ccsl_kernel.proofs.Definitions.{definition_allowed}
use Rattle.ccsl_kernel.proofs.Scope.{reads_only, reads_below}
use Rattle.ccsl_kernel.proofs.AcceptedParts.{accepted_guarded, accepted_scoped}
use Rattle.ccsl_kernel.proofs.laws.reads_lower.Goals as goal

pub returns : goal.returns
returns c = λ K ok T x n e is u.
    let guarded = accepted_guarded K ok in
    let scoped = accepted_scoped K ok in
    reads_only x (formula_at K T x e [] 0 n)
    (reads_below x K T (dead_below K T x) guarded.bodies scoped.bodies e [] 0 (definition_allowed K guarded x e is) (omega arith) (scoped.definitions x e is) tt
    n (omega arith) u)
