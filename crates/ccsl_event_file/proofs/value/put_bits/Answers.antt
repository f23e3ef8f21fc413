use Rattle.std.proofs.Common.{sym, ◌∙◌, arith}
use Rattle.ccsl_event_file.proofs.Bits.{put, extended-end}
use Rattle.ccsl_event_file.proofs.value.put_bits.Goals as goal

pub loop-i-preserved : goal.loop-i-preserved
loop-i-preserved c =
    put c.args.count c.loop-i.i c.args.number c.loop-i.letters.items c.put_bit.new.letters.items (omega arith) c.in_ok-put_bit.ensures ∙ c.loop-i.invariant

pub returns : goal.returns
returns c = sym (extended-end c.args.count c.loop-i.i c.args.number c.loop-i.letters.items (omega arith)) ∙ c.loop-i.invariant
