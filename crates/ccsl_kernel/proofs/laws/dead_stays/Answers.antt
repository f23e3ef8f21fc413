-- Each row keeps it.
use Rattle.std.proofs.Common.{◌≡◌, suc, ◌+◌, ap, ◌∙◌, arith}
use Rattle.ccsl_kernel.specs.Deaths.{dead_at}
use Rattle.ccsl_kernel.proofs.Silent.{obeying_silent}
use Rattle.ccsl_kernel.proofs.AcceptedParts.{accepted_guarded}
use Rattle.ccsl_kernel.proofs.laws.dead_stays.Goals as goal

pub returns : goal.returns
returns c = λ K ok T x e ρ b n obeys ok_e l u h.
    let w = (obeying_silent K T (accepted_guarded K ok) obeys x e ρ b ok_e (omega (arith, l, u))).at n l u in
    (w.quiet h, ap (dead_at K T x e ρ b) (let s : n + 1 ≡ suc n = omega arith in s) ∙ w.stays h)
