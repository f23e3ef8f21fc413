use Rattle.ccsl_edge.proofs.Counts.{SameCounts-then}
use Rattle.ccsl_show_top.proofs.Following.{follows-reads, on-ok}
use Rattle.ccsl_show_top.proofs.program.show_behind.Goals as goal

pub returns-in_err-report_page-clause-follows : goal.returns-in_err-report_page-clause-follows
returns-in_err-report_page-clause-follows g c = follows-reads g.W.World.told _ _ _ c.put_behind-shown.ensures.reads c.report_page.ensures.follows

pub returns : goal.returns
returns g c = record {
  follows = follows-reads g.W.World.told _ _ _ c.put_behind-shown.ensures.reads c.report_page.ensures.follows;
  calm = on-ok _ _ _ (λ calm. SameCounts-then _ _ _ calm c.in_ok-report_page.ensures.calm) c.put_behind-shown.ensures.calm;
}
