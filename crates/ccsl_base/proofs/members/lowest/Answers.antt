use Rattle.std.proofs.Common.{ap, nat_eq}
use Rattle.std.specs.Int.{w64}
use Rattle.std.proofs.lemmas.Nat.Bits.{bit_at-trailing_zeros}
use Rattle.ccsl_base.proofs.members.lowest.Goals as goal

pub returns-clause-here : goal.returns-clause-here
returns-clause-here c = ap (λ b. nat_eq b 1) (bit_at-trailing_zeros w64 c.args.word c.requires c.ranges.word.fits).1

pub returns-clause-below : goal.returns-clause-below
returns-clause-below c i l = ap (λ b. nat_eq b 1) ((bit_at-trailing_zeros w64 c.args.word c.requires c.ranges.word.fits).2 i l)
