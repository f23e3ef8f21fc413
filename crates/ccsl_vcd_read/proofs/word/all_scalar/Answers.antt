use Rattle.std.proofs.Common.{sym, ◌∙◌}
use Rattle.ccsl_vcd_read.proofs.Letters.{bits-scalar}
use Rattle.ccsl_vcd_read.proofs.word.all_scalar.Goals as goal

pub returns-then-are_bits : goal.returns-then-are_bits
returns-then-are_bits c = c.if-are_bits.true ∙ sym (bits-scalar c.args.text.now (sym c.are_bits.ensures ∙ c.if-are_bits.true))
