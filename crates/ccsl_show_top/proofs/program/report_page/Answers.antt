use Rattle.std.proofs.Common.{rules}
use Rattle.ccsl_edge.proofs.Counts.{Adds-SameCounts}
use Rattle.ccsl_edge.specs.declared.slot.Slot.TheVariants.{Report}
use Rattle.ccsl_show_top.proofs.Following.{follows-added, follows-front}
use Rattle.ccsl_show_top.proofs.program.report_page.Goals as goal

pub returns-in-Ok : goal.returns-in-Ok
returns-in-Ok g c = record {
  follows = follows-added g.W.World.told _ _ _ c.in-Ok.ensures.ok;
  calm = Adds-SameCounts g.W.World.told Report _ _ _ c.in-Ok.ensures.ok;
}

pub returns-in-Err-clause-follows : goal.returns-in-Err-clause-follows
returns-in-Err-clause-follows g c = follows-front g.W.World.told _ _ _ c.in-Err.ensures.err

pub returns-in-Err-clause-calm : goal.returns-in-Err-clause-calm
returns-in-Err-clause-calm g c = search rules
