use Rattle.std.proofs.Common.{ap, sym, ◌∙◌, arith}
use lib.Count.{count_trailing_zeros}
use Rattle.ccsl_vcd_lex.proofs.Lanes.{run-stops}
use Rattle.ccsl_vcd_read.specs.Letters.{is_other}
use Rattle.ccsl_vcd_read.proofs.Letters.{bits-next}
use Rattle.ccsl_vcd_read.proofs.ShortChanges.{bits-stop}
use Rattle.ccsl_vcd_read.proofs.scan.bits_at_front.Goals as goal

pub returns-then-found-ne0 : goal.returns-then-found-ne0
returns-then-found-ne0 c =
    let found = c.other_bits-found in
    let run = run-stops is_other c.args.bytes.now c.loop-i.i 16 (omega arith) (omega arith) (omega (arith, found.ensures))
    ∙ ap (count_trailing_zeros 64) (sym found.ensures) in
    let stop = bits-stop c.args.bytes.now c.loop-i.i _ c.loop-i.invariant.0 c.loop-i.invariant.1 (sym run) in
    record { within = stop.1; are = stop.0 }

pub loop-i-preserved : goal.loop-i-preserved
loop-i-preserved c = (
  bits-next c.args.bytes.now c.loop-i.i 16 c.other_bits-found.result c.other_bits-found.ensures c.if-found-ne0.false c.loop-i.invariant.0,
  omega (arith, c.loop-i-test.true, c.loop-i.invariant.1),
)
