use Rattle.std.proofs.Common.{arith}
use Rattle.ccsl_vcd_read.proofs.Letters.{bits-fail, bits-next, bits-last}
use Rattle.ccsl_vcd_read.proofs.scan.are_bits.Goals as goal

pub returns-then-other_bits-ne0 : goal.returns-then-other_bits-ne0
returns-then-other_bits-ne0 c = bits-fail c.args.bytes.now c.loop-i.i 16 c.other_bits.result c.other_bits.ensures c.if-other_bits-ne0.true

pub loop-i-preserved : goal.loop-i-preserved
loop-i-preserved c = (
  bits-next c.args.bytes.now c.loop-i.i 16 c.other_bits.result c.other_bits.ensures c.if-other_bits-ne0.false c.loop-i.invariant.0,
  omega (arith, c.loop-i-test.true, c.loop-i.invariant.1),
)

pub returns : goal.returns
returns c =
    bits-last c.args.bytes.now c.loop-i.i 16 c.other_bits-2.result c.other_bits-2.ensures c.loop-i.invariant.1
    (omega (arith, c.loop-i-test.false, c.loop-i.invariant.1)) (omega (arith, c.if-bytes-lt-LANES.false)) c.loop-i.invariant.0
