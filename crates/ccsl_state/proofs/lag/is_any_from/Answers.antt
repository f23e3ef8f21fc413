-- A bit that is set, and one that is not.
use Rattle.std.proofs.lemmas.Grind.{common_steps}
use Rattle.std.proofs.Common.{sym, ◌∙◌, arith}
use Rattle.ccsl_state.specs.Layout.{bits_of}
use Rattle.ccsl_state.proofs.Bits.{bits_of_len, any_at, any_more}
use Rattle.ccsl_state.proofs.lag.is_any_from.Goals as goal

pub returns-then-bit_at : goal.returns-then-bit_at
returns-then-bit_at c = sym (any_at c.args.m c.loop-p.p (bits_of c.args.cells.now) c.loop-p-test.true (sym c.bit_at.ensures ∙ c.if-bit_at.true))

pub loop-p-preserved : goal.loop-p-preserved
loop-p-preserved c = grind (arith, common_steps, bits_of_len, any_more)
