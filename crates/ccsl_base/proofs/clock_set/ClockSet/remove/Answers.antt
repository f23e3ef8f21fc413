use Rattle.std.proofs.Common.{◌%◌, ap, sym, ◌∙◌, arith, nat_eq}
use Rattle.std.specs.Int.{w64}
use Rattle.std.proofs.lemmas.Nat.Bits.{bit_at_clear_same, bit_at_clear_other}
use Rattle.ccsl_base.proofs.Words.{words-without, words-without-absent}
use Rattle.ccsl_base.specs.Changes.{without_clock}
use Rattle.ccsl_base.proofs.clock_set.ClockSet.remove.Goals as goal

pub returns-then-place-self : goal.returns-then-place-self
returns-then-place-self c =
    sym (words-without c.self.inside.words c.args.clock _ (omega (arith, c.self.invariant.0, c.self.invariant.1, c.if-place-self.true))
    (ap (λ b. nat_eq b 1) (bit_at_clear_same w64 _ (c.args.clock % 64) (omega arith)))
    (λ x l n. ap (λ b. nat_eq b 1) (bit_at_clear_other w64 _ (c.args.clock % 64) (omega arith) x l n)))
    ∙ ap (without_clock c.args.clock) c.self.view_is

pub returns-else-place-self : goal.returns-else-place-self
returns-else-place-self c =
    sym c.self.view_is
    ∙ sym (words-without-absent c.self.inside.used c.self.inside.words c.args.clock c.self.invariant.2 (omega (arith, c.if-place-self.false)))
    ∙ ap (without_clock c.args.clock) c.self.view_is
