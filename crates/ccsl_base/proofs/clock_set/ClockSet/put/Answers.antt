use Rattle.std.proofs.Common.{ap, sym, ◌∙◌, arith}
use Rattle.ccsl_base.specs.Changes.{put_clock}
use Rattle.ccsl_base.proofs.Words.{words-put}
use Rattle.ccsl_base.proofs.clock_set.ClockSet.put.Goals as goal

pub returns : goal.returns
returns c =
    sym (words-put c.self.inside.words c.args.clock c.word_with.result c.args.one (omega (arith, c.self.invariant.0, c.requires)) c.word_with.ensures.here
    c.word_with.ensures.others)
    ∙ ap (put_clock c.args.clock c.args.one) c.self.view_is
