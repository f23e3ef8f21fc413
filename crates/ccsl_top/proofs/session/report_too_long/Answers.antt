use Rattle.std.proofs.Common.{◌∙◌}
use Rattle.ccsl_top.proofs.Conversing.{long-starved, long-reported, long-unreported}
use Rattle.ccsl_top.proofs.session.report_too_long.Goals as goal

pub returns-in-Err : goal.returns-in-Err
returns-in-Err g c = λ words K policy seed start begun b h.
    long-starved g.W.World.told words K policy seed start begun b (g.W.World.state c.args.world.now) h

pub returns-in-Ok-write_all : goal.returns-in-Ok-write_all
returns-in-Ok-write_all g c = λ words K policy seed start begun b h.
    long-reported g.W.World.told words K policy seed start begun b (g.W.World.state c.args.world.now) h (g.W.World.state c.write_all.new.world)
    c.deref.result.now (c.deref.ensures.value ∙ c.in-Ok.ensures) c.in-Ok-write_all.ensures.ok

pub returns : goal.returns
returns g c = λ words K policy seed start begun b h.
    long-unreported g.W.World.told words K policy seed start begun b (g.W.World.state c.args.world.now) h (g.W.World.state c.write_all.new.world)
    c.deref.result.now (c.deref.ensures.value ∙ c.in-Ok.ensures) c.in-Err-write_all.ensures.err
