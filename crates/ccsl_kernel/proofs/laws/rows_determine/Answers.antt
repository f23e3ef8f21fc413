-- Two meanings that obey the rows agree.
use Rattle.std.proofs.Common.{length, refl, arith}
use Rattle.ccsl_kernel.specs.Meaning.{life_given, dead_below}
use Rattle.ccsl_kernel.proofs.Agree.{unique}
use Rattle.ccsl_kernel.proofs.TableHolds.{meaning_rows, meaning_calls}
use Rattle.ccsl_kernel.proofs.AcceptedParts.{accepted_guarded}
use Rattle.ccsl_kernel.proofs.laws.rows_determine.Goals as goal

pub returns : goal.returns
returns c = λ K ok T x M obeys e ρ ok_e b n l u.
    let gone = dead_below K T x in
    let bodies = (accepted_guarded K ok).bodies in
    (unique K T T (length T) (omega arith) (omega arith) (λ i h. refl) gone gone (λ n x h. refl) M (life_given K T gone) obeys.rows (meaning_rows K T gone)
    bodies obeys.calls (meaning_calls K T gone bodies) e ρ b ok_e (omega (arith, l, u))).at n l u
