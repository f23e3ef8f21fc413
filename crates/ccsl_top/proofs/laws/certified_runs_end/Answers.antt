use Rattle.ccsl_top.proofs.Ending.{certified-runs-end}
use Rattle.ccsl_top.proofs.laws.certified_runs_end.Goals as goal

pub returns : goal.returns
returns c = λ K ok. certified-runs-end c.first_bad_line_is_first.ensures.none K (c.answered_yes_is_deadlock.ensures K ok)
