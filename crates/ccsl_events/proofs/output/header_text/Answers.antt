use Rattle.std.proofs.Common.{append_assoc}
use Rattle.ccsl_events.proofs.output.header_text.Goals as goal

pub returns : goal.returns
returns c =
    rw (c.in_ok-extend_from_slice-2.ensures.items, c.in_ok-put_events.ensures, c.in_ok-extend_from_slice.ensures.items, c.in_ok-put_timescale.ensures)
    (rw (c.new-out.ensures.items) (simp append_assoc))
