use Rattle.std.proofs.Common.{◌++◌, take, sym, ◌∙◌, arith}
use Rattle.std.proofs.lemmas.Grind.{common_steps}
use Rattle.ccsl_vcd_read.proofs.Feeding.{takes-more}
use Rattle.ccsl_vcd_read.proofs.Passing.{none-open}
use Rattle.ccsl_vcd_read.proofs.Racing.{white-last}
use Rattle.ccsl_vcd_read.proofs.Taking.{running-of}
use Rattle.ccsl_vcd_read.proofs.reader.Reader.stride.Goals as goal

pub race-more-requires-clause-nothing_open : goal.race-more-requires-clause-nothing_open
race-more-requires-clause-nothing_open c =
    let t = c.requires.ready.stands in
    let takes = c.in-Ok.ensures.takes in
    let more = t.1 ++ take c.in-Ok.step.bytes c.args.piece.now in
    let run = running-of t.0 c.advance.new.self more takes.runs (takes.took t.0 t.1 t.2).stands in
    none-open c.advance.new.self.lexing more run.lexes run.short
    (white-last t.1 c.args.piece.now c.in-Ok.step.bytes c.in-Ok.ensures.moves takes.within (sym c.is_space.ensures ∙ c.if-not-is_space.false))

pub returns-clause-takes : goal.returns-clause-takes
returns-clause-takes c =
    takes-more (rw c.if-step.false at c.in-Ok.ensures.takes) (grind (arith, common_steps, c.is_full.ensures, c.if-is_full.false)) c.race-more.ensures
