use Rattle.std.proofs.Common.{slice_index_or, refl, arith}
use Rattle.ccsl_events.proofs.Letters.{bits-more}
use Rattle.ccsl_events.proofs.word.are_bits.Goals as goal

pub loop-b-preserved : goal.loop-b-preserved
loop-b-preserved c none =
    bits-more c.args.text.now c.loop-b.b-index (slice_index_or c.args.text.now c.loop-b.b-index 0) c.loop-b.others c.loop-b-test.true refl
    (omega (arith, c.type_inv.text c.loop-b.b-index)) c.loop-b.invariant none
