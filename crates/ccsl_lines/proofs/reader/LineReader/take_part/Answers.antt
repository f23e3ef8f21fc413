use Rattle.std.proofs.Common.{sym, ap, ◌∙◌, length, drop, arith}
use Rattle.std.proofs.lemmas.List.{drop_all}
use Rattle.ccsl_lines.proofs.Looking.{ends-line, takes-all}
use Rattle.ccsl_lines.proofs.reader.LineReader.take_part.Goals as goal

pub returns-in-Some-clause-ends : goal.returns-in-Some-clause-ends
returns-in-Some-clause-ends c = λ _.
    rw (← c.self.view_is)
    (ends-line _ _ c.in-Some.at (rw c.bytes-bytes.ensures.same at (sym c.line_feed_in.ensures ∙ c.in-Some.is)) c.take.ensures
    (rw c.bytes-bytes.ensures.same at c.add.ensures))

pub returns-in-None-clause-takes : goal.returns-in-None-clause-takes
returns-in-None-clause-takes c = λ _.
    rw (← c.self.view_is)
    (takes-all _ _ (rw c.bytes-bytes.ensures.same at (sym c.line_feed_in.ensures ∙ c.in-None.is))
    (c.take-in-None.ensures ∙ ap (λ xs. drop (length xs) c.self.inside.pending) c.bytes-bytes.ensures.same
    ∙ drop_all (length c.self.inside.pending) c.self.inside.pending (omega arith))
    (rw c.bytes-bytes.ensures.same at c.add-in-None.ensures))
