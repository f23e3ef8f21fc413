use Rattle.std.proofs.Common.{◌%◌, ap, sym, ◌∙◌, arith, nat_eq}
use Rattle.std.specs.Int.{w64}
use Rattle.std.proofs.lemmas.Nat.Bits.{bit_at_set_same, bit_at_set_other}
use Rattle.ccsl_base.proofs.Words.{words-with}
use Rattle.ccsl_base.specs.Clocks.{with_clock}
use Rattle.ccsl_base.proofs.clock_set.ClockSet.insert.Goals as goal

pub returns : goal.returns
returns c =
    sym (words-with c.self.inside.words c.args.clock _ (omega (arith, c.self.invariant.0, c.requires))
    (ap (λ b. nat_eq b 1) (bit_at_set_same w64 _ (c.args.clock % 64) (omega arith)))
    (λ x l n. ap (λ b. nat_eq b 1) (bit_at_set_other w64 _ (c.args.clock % 64) (omega arith) x n)))
    ∙ ap (with_clock c.args.clock) c.self.view_is
