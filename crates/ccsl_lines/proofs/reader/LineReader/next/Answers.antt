use Rattle.std.proofs.lemmas.Result.{err_from_is_err_and}
use Rattle.ccsl_lines.proofs.Reading.{changes, Comes-room, gives-line, nears-line, Comes-on, gives-stop, nears-stop, breaks}
use Rattle.ccsl_lines.proofs.reader.LineReader.next.Goals as goal

pub loop-self-init : goal.loop-self-init
loop-self-init g c =
    Comes-room _ _ _ _ _ c.self.view_is c.if-self.false c.make_room.ensures.begun (changes _ _ _ _ _ _ c.make_room.ensures.kept)

pub loop-self-preserved : goal.loop-self-preserved
loop-self-preserved g c =
    Comes-on _ _ _ _ _ c.loop-self.invariant _ (changes _ _ _ _ _ _ c.take_part.ensures.kept) (c.take_part.ensures.takes c.loop-self-test.true)
    _ _ (rw c.in_default.is at c.in_ok-next.ensures.reads)

pub returns-in_err-next-clause-breaks : goal.returns-in_err-next-clause-breaks
returns-in_err-next-clause-breaks g c =
    let p = err_from_is_err_and c.from_residual.result c.from_residual.ensures.1 in
    rw p.1
    (breaks _ _ _ _ _ _ _ _ _ c.loop-self.invariant (changes _ _ _ _ _ _ c.take_part.ensures.kept) (c.take_part.ensures.takes c.loop-self-test.true)
    c.in_err-next.ensures.wanted c.in_err-next.ensures.err)

pub returns-in-Some-clause-gives : goal.returns-in-Some-clause-gives
returns-in-Some-clause-gives g c =
    gives-stop _ _ _ _ _ c.loop-self.invariant _ (changes _ _ _ _ _ _ c.take_part.ensures.kept) (c.take_part.ensures.takes c.loop-self-test.true)
    _ (rw c.in-Some.is at c.in_ok-next.ensures.same) _ _ (rw c.in-Some.is at c.in_ok-next.ensures.stops)

pub returns-in-Some-clause-nears : goal.returns-in-Some-clause-nears
returns-in-Some-clause-nears g c =
    nears-stop _ _ _ _ _ c.loop-self.invariant _ (changes _ _ _ _ _ _ c.take_part.ensures.kept) (c.take_part.ensures.takes c.loop-self-test.true)
    _ (rw c.in-Some.is at c.in_ok-next.ensures.same) _ _ (rw c.in-Some.is at c.in_ok-next.ensures.stops)

pub returns-clause-gives : goal.returns-clause-gives
returns-clause-gives g c =
    gives-line _ _ _ _ _ c.loop-self.invariant _ (changes _ _ _ _ _ _ c.take_part.ensures.kept) (c.take_part.ensures.ends c.loop-self-test.false)
    _ _ c.hand_out.ensures.hands_out (changes _ _ _ _ _ _ c.hand_out.ensures.kept)

pub returns-clause-nears : goal.returns-clause-nears
returns-clause-nears g c = λ _.
    nears-line _ _ _ _ _ c.loop-self.invariant _ (changes _ _ _ _ _ _ c.take_part.ensures.kept) (c.take_part.ensures.ends c.loop-self-test.false)
    _ _ c.hand_out.ensures.hands_out (changes _ _ _ _ _ _ c.hand_out.ensures.kept)
