use Rattle.std.proofs.Common.{◌≡◌, ◌<◌, ◌+◌, ◌-◌, ◌^◌, ℕ, Bool, true, false, min, refl, ap, ◌∙◌, arith}
use Rattle.std.specs.Int.{from_bool}
use Rattle.ccsl_causes.specs.Counted.{counted}
use Rattle.ccsl_causes.proofs.counts.raised.Goals as goal

raised-is : (ticks : Bool) (n : ℕ) → n < 2 ^ 64 → min (n + from_bool ticks) (2 ^ 64 - 1) ≡ counted ticks n
raised-is true n few = refl
raised-is false n few = omega (arith, few)

pub returns : goal.returns
returns c =
    c.saturating_add.ensures
    ∙ ap (λ n. min (c.args.count + n) (2 ^ 64 - 1)) c.from.ensures
    ∙ raised-is c.args.ticks c.args.count (omega arith)
